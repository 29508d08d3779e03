-- A type without faults has a kind.
use Rattle.std.proofs.Common.{◌≡◌, ℕ, ◌+◌, true, not, Option, Some, None, IsSome, int_lt, [], ◌++◌, refl}
use Rattle.ioa_trees.specs.Trees as tree
use Rattle.ioa_trees.specs.Trees.{PlainType}
use Rattle.ioa_trees.specs.Faults.{where_wrong}
use Rattle.ioa_trees.specs.Kinds.{Kind, Truth, Whole, Range, Enum, SeqOf, ArrayOf, number, can_be_listed}
use Rattle.ioa_trees.specs.Scopes.{Scope, named, is_type, kind_meant}
use Rattle.ioa_trees.specs.Sizes.{type_size}
use Rattle.ioa_trees.specs.TypeRules.{kind_of, type_faults, seq_of, array_of, overweight, unlisted, is_bad_bound}
use Rattle.ioa_trees.specs.Meant.{AllMeant}
use Rattle.ioa_trees.proofs.NoFaults.{nil_left, nil_right, right_if, not_wrong}

pub listed_ok : (at : ℕ) (k : Kind) → unlisted at (Some k) ≡ [] → can_be_listed k ≡ true
listed_ok at Truth e = refl
listed_ok at Whole e = cc
listed_ok at (Range a b) e = refl
listed_ok at (Enum a b) e = refl
listed_ok at (SeqOf k n) e = cc
listed_ok at (ArrayOf r k) e = cc

seq_ok : (n : ℕ) (k : Option Kind) → IsSome k → IsSome (seq_of n k)
seq_ok n None h = h
seq_ok n (Some k) h = refl

array_ok : (at : ℕ) (r k : Option Kind) → IsSome r → IsSome k → unlisted at r ≡ [] → IsSome (array_of r k)
array_ok at None k h i e = h
array_ok at (Some r) None h i e = i
array_ok at (Some r) (Some k) h i e = rw (listed_ok at r e) refl

-- a type without faults has a kind
pub kind_if : (s : Scope) → AllMeant s → (at : ℕ) (t : PlainType) → type_faults s at t ≡ [] → IsSome (kind_of s t)
kind_if s m at tree.Bools h = refl
kind_if s m at tree.Ints h = refl
kind_if s m at (tree.Range a b) h = rw (not_wrong (int_lt (number b) (number a)) at 12 h) refl
kind_if s m at (tree.Named q) h = m.types q (right_if (is_type (named q s)) at 10 (nil_left (where_wrong (not (is_type (named q s))) at 10) (overweight at (kind_meant (named q s))) h))
kind_if s m at (tree.SeqOf t n) h =
    let a = type_faults s (at + 2) t in
    let b = where_wrong (is_bad_bound n) (at + type_size t + 3) 17 ++ overweight at (kind_of s (tree.SeqOf t n)) in
    seq_ok n (kind_of s t) (kind_if s m (at + 2) t (nil_left a b h))
kind_if s m at (tree.ArrayOf r t) h =
    let p = at + type_size r + 3 in
    let a = type_faults s (at + 2) r in let b = type_faults s p t in
    let c = unlisted (at + 2) (kind_of s r) in let d = overweight at (kind_of s (tree.ArrayOf r t)) in
    let i = nil_right a (b ++ (c ++ d)) h in
    let j = nil_right b (c ++ d) i in
    array_ok (at + 2) (kind_of s r) (kind_of s t) (kind_if s m (at + 2) r (nil_left a (b ++ (c ++ d)) h)) (kind_if s m p t (nil_left b (c ++ d) i)) (nil_left c d j)
