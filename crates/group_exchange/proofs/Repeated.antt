-- Lists of one thing so many times.
use Rattle.std.proofs.Common.{◌≡◌, ℕ, zero, suc, [], ◌∷◌, ◌++◌, ◌+◌, refl, ap, ◌∙◌, arith}
use Rattle.std.specs.Prelude.{replicate}

-- one more of the same
pub same_more : {X : Type 0} (x : X) (n : ℕ) → replicate n x ++ x ∷ [] ≡ replicate (n + 1) x
same_more {X} x n = go n ∙ ap (λ k. replicate k x) next
  where
    next : suc n ≡ n + 1
    next = omega arith

    go : (n : ℕ) → replicate n x ++ x ∷ [] ≡ replicate (suc n) x
    go zero = refl
    go (suc n) = ap (λ xs. x ∷ xs) (go n)
