-- Lists of faults that are empty.
use Rattle.std.proofs.Common.{◌≡◌, ℕ, Bool, true, false, not, List, [], ◌∷◌, ◌++◌, refl}
use Rattle.ioa_trees.specs.Faults.{where_wrong}

pub nil_left : {X : Type 0} (xs ys : List X) → xs ++ ys ≡ [] → xs ≡ []
nil_left [] ys h = refl
nil_left (x ∷ xs) ys h = cc

pub nil_right : {X : Type 0} (xs ys : List X) → xs ++ ys ≡ [] → ys ≡ []
nil_right [] ys h = h
nil_right (x ∷ xs) ys h = cc

-- nothing is wrong
pub right_if : (b : Bool) (at n : ℕ) → where_wrong (not b) at n ≡ [] → b ≡ true
right_if true at n h = refl
right_if false at n h = cc

pub not_wrong : (b : Bool) (at n : ℕ) → where_wrong b at n ≡ [] → b ≡ false
not_wrong true at n h = cc
not_wrong false at n h = refl
