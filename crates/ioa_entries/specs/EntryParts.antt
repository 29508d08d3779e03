-- The scope, the size and the faults of one part at a time.
use Rattle.std.specs.Prelude.{ℕ, ◌+◌, not, Bool, if◌then◌else◌, nat_eq, Option, Some, List, [], ◌∷◌, ◌++◌}
use Rattle.ioa_trees.specs.Trees as tree
use Rattle.ioa_trees.specs.Trees.{PlainParameter, PlainStatements, PlainTransition, no_statement, more_statements}
use Rattle.ioa_trees.specs.Faults.{Fault, where_wrong}
use Rattle.ioa_trees.specs.Scopes.{Scope, doubled, is_formal, named}
use Rattle.ioa_trees.specs.TypeRules.{kind_of, type_faults}
use Rattle.ioa_trees.specs.EntryRules.{Slot, formal_of, free_of, members_of, pre_faults, sort_faults, with_parameter}
use Rattle.ioa_trees.specs.EffectRules.{statements_faults}
use Rattle.ioa_trees.specs.Sizes.{behind, entry_size, listed_size, parameter_size, pre_size}

-- the token before each part but the first
abbrev pub between : ℕ → ℕ
between n = if nat_eq n 0 then 0 else 1

-- the parameters from this place on, and the tokens before them
abbrev pub rest_size : ℕ → List PlainParameter → ℕ
rest_size n ps = if nat_eq n 0 then listed_size parameter_size ps else behind parameter_size ps

-- the scope behind one parameter
abbrev pub after_parameter : Scope → ℕ → PlainParameter → Scope
after_parameter s n (tree.Constant q) = s
after_parameter s n (tree.Typed d) = with_parameter s n d

abbrev pub parameter_faults : Scope → Bool → ℕ → PlainParameter → List Fault
parameter_faults s controlled at (tree.Constant q) = where_wrong (not (is_formal (named q s))) (at + 1) 10
parameter_faults s controlled at (tree.Typed d) = doubled s at d.name ++ (type_faults s (at + 2) d.of ++ sort_faults controlled (at + 2) (kind_of s d.of))

-- how many values one parameter has
abbrev pub values_of : Scope → PlainParameter → Option ℕ
values_of s (tree.Constant q) = Some 1
values_of s (tree.Typed d) = members_of (kind_of s d.of)

abbrev pub slot_of : Scope → PlainParameter → Option Slot
slot_of s (tree.Constant q) = formal_of (named q s)
slot_of s (tree.Typed d) = free_of (kind_of s d.of)

-- a parenthesis, where there are parameters
abbrev pub bracket : List PlainParameter → ℕ
bracket [] = 0
bracket (p ∷ ps) = 1

-- the word `eff`, where statements stand behind it
abbrev pub eff_word : PlainStatements → ℕ
eff_word no_statement = 0
eff_word (more_statements a others) = 1

-- a transition but for its head, in the scope of its parameters
abbrev pub inside_faults : Scope → ℕ → PlainTransition → List Fault
inside_faults s at t = pre_faults s t.entry.kind (at + entry_size t.entry) t.pre ++ statements_faults s 0 (at + entry_size t.entry + pre_size t.pre + 1) t.eff
