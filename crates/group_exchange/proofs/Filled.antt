-- Each group has a component.
use Rattle.std.proofs.Common.{◌≡◌, ℕ, suc, ◌<◌, ◌==◌, ◌⊎◌, inl, inr, Bool, false, cond, List, [], ◌∷◌, length, ap, arith}
use Rattle.std.proofs.lemmas.Bool.{cases_eq, ne_eqb}
use Rattle.std.proofs.lemmas.List.Sums.{sum_by-cons}
use Rattle.partitions.specs.Partitions.{size_of}
use Rattle.group_exchange.specs.ExchangeView.{group_at}

none_of : (b : Bool) → b ≡ false → cond {A = ℕ} b 1 0 ≡ 0
none_of b e = ap (λ c. cond {A = ℕ} c 1 0) e

-- where the size of a group is not 0 one of the components is in it
pub member_of : (groups : List ℕ) (g : ℕ) → 0 < size_of groups g → (j : ℕ) × (j < length groups) × (group_at groups j ≡ g)
member_of [] g h = absurd (omega (arith, h))
member_of (n ∷ groups) g h = go (λ k. member_of groups g k) (cases_eq n g)
  where
    go : (0 < size_of groups g → (j : ℕ) × (j < length groups) × (group_at groups j ≡ g)) → (n ≡ g) ⊎ (n ≡ g → ⊥) → (j : ℕ) × (j < suc (length groups)) × (group_at (n ∷ groups) j ≡ g)
    go rest (inl e) = (0, omega arith, e)
    go rest (inr ne) =
        let all = sum_by-cons (λ (x : ℕ). cond (x == g) 1 0) n groups in
        let none = none_of (n == g) (ne_eqb n g ne) in
        let later = rest (omega (arith, h, all, none)) in
        let inside = later.1 in
        (suc later.0, omega (arith, inside), later.2)
