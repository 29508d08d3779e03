-- How the sums of the rule change, by one pass.
use Rattle.std.proofs.Common.{◌≡◌, ◌≢◌, ℕ, zero, suc, ◌+◌, ◌≤◌, List, [], ◌∷◌, ◌++◌, length, set, sym, refl, ap, arith}
use mathlib.Core.Option.{some, some-injective, some-ne-none}
use lib.ListN.{get_elem?}
use Rattle.boards.specs.Sections.{total}

module _ {V : Type 0} where
  pub total_set : (f : V → ℕ) (views : List V) (pass : ℕ) (v w : V) → get_elem? views pass ≡ some v → total f (set views pass w) + f v ≡ total f views + f w
  total_set f [] pass v w e = absurd (some-ne-none v (sym e))
  total_set f (x ∷ xs) zero v w e = let same : f x ≡ f v = ap f (some-injective x v e) in omega arith
  total_set f (x ∷ xs) (suc pass) v w e = let h = total_set f xs pass v w e in omega arith

  pub total_more : (f : V → ℕ) (views : List V) (w : V) → total f (views ++ w ∷ []) ≡ total f views + f w
  total_more f [] w = omega arith
  total_more f (x ∷ xs) w = let h = total_more f xs w in omega arith

  pub below_total : (f : V → ℕ) (views : List V) (pass : ℕ) (v : V) → get_elem? views pass ≡ some v → f v ≤ total f views
  below_total f [] pass v e = absurd (some-ne-none v (sym e))
  below_total f (x ∷ xs) zero v e = let same : f x ≡ f v = ap f (some-injective x v e) in omega arith
  below_total f (x ∷ xs) (suc pass) v e = let h = below_total f xs pass v e in omega arith

  pub two_below_total : (f : V → ℕ) (views : List V) (pass other : ℕ) (v u : V) → other ≢ pass → get_elem? views pass ≡ some v → get_elem? views other ≡ some u → f v + f u ≤ total f views
  two_below_total f [] pass other v u two e d = absurd (some-ne-none v (sym e))
  two_below_total f (x ∷ xs) zero zero v u two e d = absurd (two refl)
  two_below_total f (x ∷ xs) zero (suc other) v u two e d = let same : f x ≡ f v = ap f (some-injective x v e) in let h = below_total f xs other u d in omega arith
  two_below_total f (x ∷ xs) (suc pass) zero v u two e d = let same : f x ≡ f u = ap f (some-injective x u d) in let h = below_total f xs pass v e in omega arith
  two_below_total f (x ∷ xs) (suc pass) (suc other) v u two e d = let h = two_below_total f xs pass other v u (λ same. two (ap suc same)) e d in omega arith

  -- in a list of one pass
  pub total_alone : (f : V → ℕ) (views : List V) (pass : ℕ) (v : V) → length views ≡ 1 → get_elem? views pass ≡ some v → total f views ≡ f v
  total_alone f [] pass v one e = absurd (omega arith)
  total_alone f (x ∷ []) zero v one e = let same : f x ≡ f v = ap f (some-injective x v e) in omega arith
  total_alone f (x ∷ []) (suc pass) v one e = absurd (some-ne-none v (sym e))
  total_alone f (x ∷ y ∷ ys) pass v one e = absurd (omega arith)

  pub same_place : (views : List V) (pass other : ℕ) (v u : V) → length views ≡ 1 → get_elem? views pass ≡ some v → get_elem? views other ≡ some u → other ≡ pass
  same_place [] pass other v u one e d = absurd (omega arith)
  same_place (x ∷ []) zero zero v u one e d = refl
  same_place (x ∷ []) zero (suc other) v u one e d = absurd (some-ne-none u (sym d))
  same_place (x ∷ []) (suc pass) other v u one e d = absurd (some-ne-none v (sym e))
  same_place (x ∷ y ∷ ys) pass other v u one e d = absurd (omega arith)
