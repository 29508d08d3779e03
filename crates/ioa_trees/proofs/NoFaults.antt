-- Lists of faults that are empty.
use Rattle.std.proofs.Common.{◌≡◌, ℕ, Bool, true, false, not, Some, None, IsSome, List, [], ◌∷◌, ◌++◌, refl, if◌then◌else◌}
use Rattle.ioa_trees.specs.Faults.{where_wrong}

pub nil_left : {X : Type 0} (xs ys : List X) → xs ++ ys ≡ [] → xs ≡ []
nil_left [] ys h = refl
nil_left (x ∷ xs) ys h = cc

pub nil_right : {X : Type 0} (xs ys : List X) → xs ++ ys ≡ [] → ys ≡ []
nil_right [] ys h = h
nil_right (x ∷ xs) ys h = cc

pub nil_both : {X : Type 0} (xs ys : List X) → xs ≡ [] → ys ≡ [] → xs ++ ys ≡ []
nil_both [] ys h i = i
nil_both (x ∷ xs) ys h i = cc

-- nothing is wrong
pub right_if : (b : Bool) (at n : ℕ) → where_wrong (not b) at n ≡ [] → b ≡ true
right_if true at n h = refl
right_if false at n h = cc

pub not_wrong : (b : Bool) (at n : ℕ) → where_wrong b at n ≡ [] → b ≡ false
not_wrong true at n h = cc
not_wrong false at n h = refl

pub where_right : (b : Bool) (at n : ℕ) → b ≡ true → where_wrong (not b) at n ≡ []
where_right true at n h = refl
where_right false at n h = cc

pub where_not_wrong : (b : Bool) (at n : ℕ) → b ≡ false → where_wrong b at n ≡ []
where_not_wrong true at n h = cc
where_not_wrong false at n h = refl

-- a value that stands there only if a test says so
pub passed : {X : Type 0} (b : Bool) (x : X) → IsSome (if b then Some x else None) → b ≡ true
passed true x h = refl
passed false x h = cc

pub passed_not : {X : Type 0} (b : Bool) (x : X) → IsSome (if b then None else Some x) → b ≡ false
passed_not true x h = cc
passed_not false x h = refl
