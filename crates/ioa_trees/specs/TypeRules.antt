-- Types: what they mean, and their faults.
use Rattle.std.specs.Prelude.{ℕ, ◌+◌, Bool, not, ◌||◌, Option, Some, None, nat_eq, nat_lt, int_lt, if◌then◌else◌, List, [], ◌++◌}
use Rattle.ioa_trees.specs.Trees as tree
use Rattle.ioa_trees.specs.Trees.{PlainType}
use Rattle.ioa_trees.specs.Faults.{Fault, at_fault, where_wrong}
use Rattle.ioa_trees.specs.Kinds.{Kind, Truth, Whole, Range, SeqOf, ArrayOf, number, count, can_be_listed, is_scalar, weight, most_listed, most_weight}
use Rattle.ioa_trees.specs.Scopes.{Scope, named, is_type, kind_meant}
use Rattle.ioa_trees.specs.Sizes.{type_size}

abbrev pub seq_of : ℕ → Option Kind → Option Kind
seq_of n None = None
seq_of n (Some k) = Some (SeqOf k n)

abbrev pub array_of : Option Kind → Option Kind → Option Kind
array_of (Some r) (Some k) = if can_be_listed r then Some (ArrayOf r k) else None
array_of _ _ = None

-- what a type means; nothing where a part of it means nothing
abbrev pub kind_of : Scope → PlainType → Option Kind
kind_of s tree.Bools = Some Truth
kind_of s tree.Ints = Some Whole
kind_of s (tree.Range a b) = if int_lt (number b) (number a) then None else Some (Range (number a) (number b))
kind_of s (tree.Named q) = kind_meant (named q s)
kind_of s (tree.SeqOf t n) = seq_of n (kind_of s t)
kind_of s (tree.ArrayOf r t) = array_of (kind_of s r) (kind_of s t)

-- 17: a type over its weight, at its first token
abbrev pub overweight : ℕ → Option Kind → List Fault
overweight at None = []
overweight at (Some k) = where_wrong (nat_lt most_weight (weight k)) at 17

-- 12, 17: a type that can't be listed, or has too many members for it, at its first token
abbrev pub unlisted : ℕ → Option Kind → List Fault
unlisted at None = []
unlisted at (Some k) = if can_be_listed k then where_wrong (nat_lt most_listed (count k)) at 17 else at_fault at 12

-- 12: a type that isn't scalar, at its first token
abbrev pub unscalar : ℕ → Option Kind → List Fault
unscalar at None = []
unscalar at (Some k) = where_wrong (not (is_scalar k)) at 12

-- the bound of a sequence is 1 to 65,535
abbrev pub is_bad_bound : ℕ → Bool
is_bad_bound n = nat_eq n 0 || nat_lt 65535 n

-- the faults of a type whose first token has this number
abbrev pub type_faults : Scope → ℕ → PlainType → List Fault
type_faults s at tree.Bools = []
type_faults s at tree.Ints = []
type_faults s at (tree.Range a b) = where_wrong (int_lt (number b) (number a)) at 12
type_faults s at (tree.Named q) = where_wrong (not (is_type (named q s))) at 10 ++ overweight at (kind_meant (named q s))
type_faults s at (tree.SeqOf t n) =
    type_faults s (at + 2) t ++ (where_wrong (is_bad_bound n) (at + type_size t + 3) 17 ++ overweight at (kind_of s (tree.SeqOf t n)))
type_faults s at (tree.ArrayOf r t) =
    type_faults s (at + 2) r ++ (type_faults s (at + type_size r + 3) t ++ (unlisted (at + 2) (kind_of s r) ++ overweight at (kind_of s (tree.ArrayOf r t))))
