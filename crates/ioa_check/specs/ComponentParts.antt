-- Parts of components.
use Rattle.std.specs.Prelude.{ℕ, ◌+◌, Bool, true, false, not, if◌then◌else◌, nat_eq, Option, Some, None, List, [], ◌∷◌, ◌++◌, length}
use Rattle.ioa_trees.specs.Trees.{PlainTerm}
use Rattle.ioa_trees.specs.Faults.{Fault, where_wrong}
use Rattle.ioa_trees.specs.Kinds.{Kind}
use Rattle.ioa_trees.specs.Scopes.{Scope}
use Rattle.ioa_trees.specs.Sizes.{size}
use Rattle.ioa_trees.specs.SourceRules.{arguments_faults, misfit_arguments, unfit_in}
use Rattle.ioa_trees.specs.TermRules.{faults}

-- a parenthesis, where there are arguments
abbrev pub bracket : List PlainTerm → ℕ
bracket [] = 0
bracket (t ∷ ts) = 1

-- of the formals that are left: whether there is one, the kind of the first one, and the others
abbrev pub is_there : List (Option Kind) → Bool
is_there [] = false
is_there (k ∷ ks) = true

abbrev pub first_kind : List (Option Kind) → Option Kind
first_kind [] = None
first_kind (k ∷ ks) = k

abbrev pub other_kinds : List (Option Kind) → List (Option Kind)
other_kinds [] = []
other_kinds (k ∷ ks) = ks

-- an item, where it is wanted
abbrev pub where_wanted : {A : Type 0} → Bool → A → List A
where_wanted wanted x = if wanted then x ∷ [] else []

-- one argument: the faults inside, and whether it fits its formal
abbrev pub argument_faults : Scope → Option Kind → ℕ → PlainTerm → List Fault
argument_faults s k at t = faults s at t ++ unfit_in k s at t

-- each argument with the formal at its place
abbrev pub fitted_faults : Scope → List (Option Kind) → ℕ → List PlainTerm → List Fault
fitted_faults s ks at [] = []
fitted_faults s ks at (t ∷ ts) = argument_faults s (first_kind ks) at t ++ fitted_faults s (other_kinds ks) (at + size t + 1) ts

-- 12: another number of arguments, at this place, or arguments that don't fit their formals
abbrev pub compared_faults : Scope → Option (List (Option Kind)) → ℕ → List PlainTerm → List Fault
compared_faults s None at ts = []
compared_faults s (Some ks) at ts = where_wrong (not (nat_eq (length ks) (length ts))) at 12 ++ misfit_arguments s ks (at + 2) ts

-- a component from its automaton's name on
abbrev pub placing_faults : Scope → Option (List (Option Kind)) → ℕ → List PlainTerm → List Fault
placing_faults s ks at ts = arguments_faults s (at + 2) ts ++ compared_faults s ks at ts
