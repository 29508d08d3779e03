-- The tests of kinds tell whether kinds are equal.
use Rattle.std.proofs.Common.{◌≡◌, ℕ, ℤ, Bool, true, false, ◌&&◌, nat_eq, List, [], ◌∷◌, Option, None, Some, refl, ap, ap₂, arith}
use Rattle.std.proofs.lemmas.Bool.Decides.{nat_tests}
use Rattle.std.proofs.lemmas.Int.{ints}
use Rattle.ioa_trees.specs.Kinds.{Kind, Truth, Whole, Range, Enum, SeqOf, ArrayOf, same, same_number}
use Rattle.compose.specs.Types.{same_kind, same_kinds}

both_true : (a b : Bool) → (a && b) ≡ true → (a ≡ true) × (b ≡ true)
both_true true b h = (refl, h)
both_true false b h = cc

and_true : (a b : Bool) → a ≡ true → b ≡ true → (a && b) ≡ true
and_true true b h i = i
and_true false b h i = cc

number_is : (a b : ℤ) → same_number a b ≡ true → a ≡ b
number_is a b h = grind (arith, ints)

number_self : (a : ℤ) → same_number a a ≡ true
number_self a = grind (arith, ints)

is_equal : (m n : ℕ) → nat_eq m n ≡ true → m ≡ n
is_equal m n h = grind (arith, nat_tests)

equal_self : (m : ℕ) → nat_eq m m ≡ true
equal_self m = grind (arith, nat_tests)

same_is : (k l : Kind) → same k l ≡ true → k ≡ l
same_is Truth Truth h = refl
same_is Truth _ h = cc
same_is Whole Whole h = refl
same_is Whole _ h = cc
same_is (Range a b) (Range c d) h = let p = both_true (same_number a c) (same_number b d) h in ap₂ Range (number_is a c p.0) (number_is b d p.1)
same_is (Range a b) _ h = cc
same_is (Enum e n) (Enum f m) h = let p = both_true (nat_eq e f) (nat_eq n m) h in ap₂ Enum (is_equal e f p.0) (is_equal n m p.1)
same_is (Enum e n) _ h = cc
same_is (SeqOf k n) (SeqOf l m) h = let p = both_true (same k l) (nat_eq n m) h in ap₂ SeqOf (same_is k l p.0) (is_equal n m p.1)
same_is (SeqOf k n) _ h = cc
same_is (ArrayOf r k) (ArrayOf s l) h = let p = both_true (same r s) (same k l) h in ap₂ ArrayOf (same_is r s p.0) (same_is k l p.1)
same_is (ArrayOf r k) _ h = cc

same_self : (k : Kind) → same k k ≡ true
same_self Truth = refl
same_self Whole = refl
same_self (Range a b) = and_true (same_number a a) (same_number b b) (number_self a) (number_self b)
same_self (Enum e n) = and_true (nat_eq e e) (nat_eq n n) (equal_self e) (equal_self n)
same_self (SeqOf k n) = and_true (same k k) (nat_eq n n) (same_self k) (equal_self n)
same_self (ArrayOf r k) = and_true (same r r) (same k k) (same_self r) (same_self k)

kind_is : (k l : Option Kind) → same_kind k l ≡ true → k ≡ l
kind_is None None h = refl
kind_is None (Some l) h = cc
kind_is (Some k) None h = cc
kind_is (Some k) (Some l) h = ap Some (same_is k l h)

kind_self : (k : Option Kind) → same_kind k k ≡ true
kind_self None = refl
kind_self (Some k) = same_self k

pub kinds_are : (ks ls : List (Option Kind)) → same_kinds ks ls ≡ true → ks ≡ ls
kinds_are [] [] h = refl
kinds_are [] (l ∷ ls) h = cc
kinds_are (k ∷ ks) [] h = cc
kinds_are (k ∷ ks) (l ∷ ls) h = let p = both_true (same_kind k l) (same_kinds ks ls) h in ap₂ (λ x xs. x ∷ xs) (kind_is k l p.0) (kinds_are ks ls p.1)

pub kinds_self : (ks : List (Option Kind)) → same_kinds ks ks ≡ true
kinds_self [] = refl
kinds_self (k ∷ ks) = and_true (same_kind k k) (same_kinds ks ks) (kind_self k) (kinds_self ks)
