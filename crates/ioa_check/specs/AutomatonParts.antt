-- Parts of automata.
use Rattle.std.specs.Prelude.{ℕ, ◌+◌, Bool, not, ◌&&◌, ◌||◌, bytes_eq, Option, List, [], ◌∷◌, ◌++◌, map}
use Rattle.std.specs.List.{list_any}
use Rattle.terms.specs.TermTree.{TermTree}
use Rattle.ioa_trees.specs.Trees.{Bytes, PlainDeclared, PlainEntry, PlainInit, PlainVariable}
use Rattle.ioa_trees.specs.AutomatonRules.{goes_over, is_controlled_name}
use Rattle.ioa_trees.specs.EntryRules as entry
use Rattle.ioa_trees.specs.Faults.{Fault, where_wrong}
use Rattle.ioa_trees.specs.Kinds.{Kind}
use Rattle.ioa_trees.specs.Scopes.{Scope, OfFormal, declare, doubled, taken_before}
use Rattle.ioa_trees.specs.TypeRules.{kind_of, type_faults, unscalar}
use Rattle.ioa_trees.specs.ValueRules.{inner_faults, misfits, put_in}

-- one formal, its faults and the scope behind it
abbrev pub formal_faults : Scope → ℕ → PlainDeclared → List Fault
formal_faults s at d = doubled s at d.name ++ (type_faults s (at + 2) d.of ++ unscalar (at + 2) (kind_of s d.of))

abbrev pub with_formal : Scope → ℕ → PlainDeclared → Scope
with_formal s n d = declare d.name (OfFormal n (kind_of s d.of)) s

-- an output or internal of this name
abbrev pub is_controlled : PlainEntry → Bytes → Bool
is_controlled e q = entry.is_controlled e.kind && bytes_eq q e.name

-- a name in a task, where these stood before
abbrev pub is_wrong_name : List PlainEntry → List Bytes → Bytes → Bool
is_wrong_name entries before q = not (is_controlled_name entries q) || list_any (bytes_eq q) before

-- the brace that ends a task
abbrev pub closing : List Bytes → ℕ
closing [] = 0
closing (q ∷ qs) = 1

-- a state variable up to its start value
abbrev pub head_faults : Scope → List Bytes → ℕ → ℕ → PlainDeclared → List Fault
head_faults s used before at d =
    taken_before s used at d.name ++ (type_faults s (at + 2) d.of ++ where_wrong (goes_over before (kind_of s d.of)) (at + 2) 17)

abbrev pub start_faults : Scope → Option Kind → ℕ → PlainInit → List Fault
start_faults s k at v = inner_faults s at v ++ misfits s k at v

-- what a state variable means
abbrev pub kind_in : Scope → PlainVariable → Option Kind
kind_in s v = kind_of s v.declared.of

abbrev pub start_in : Scope → PlainVariable → Option TermTree
start_in s v = put_in s (kind_of s v.declared.of) v.start

-- the names of formals and of state variables
abbrev pub formal_names : List PlainDeclared → List Bytes
formal_names ds = map (λ d. d.name) ds

abbrev pub variable_names : List PlainVariable → List Bytes
variable_names vs = map (λ v. v.declared.name) vs
