-- Lists, item by item.
use Rattle.std.proofs.Common.{◌≡◌, ℕ, ◌+◌, Bool, true, false, List, ◌∷◌, arith}
use Rattle.ioa_entries.specs.Between.{between}
use Rattle.ioa_check.specs.ListParts.{left_size}

-- the size of what is left is that of its first item and of those after it
pub left_sized : {A : Type 0} (f : A → ℕ) (is_first : Bool) (x : A) (xs : List A) → left_size is_first f (x ∷ xs) ≡ between is_first + f x + left_size false f xs
left_sized f true x xs = omega arith
left_sized f false x xs = omega arith
