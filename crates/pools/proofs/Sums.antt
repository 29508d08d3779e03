-- How the sums of the rule change, by one item or by one pass.
use Rattle.std.proofs.Common.{◌≡◌, ℕ, zero, suc, eqb, ◌+◌, ◌≤◌, ◌<◌, false, List, [], ◌∷◌, ◌++◌, length, map, set, sym, refl, ap, subst, arith, eq-eqb, ne_eqb}
use mathlib.Core.Option.{some, some-injective, some-ne-none}
use mathlib.Core.Logic.{dite}
use native.Mathlib.Decide.{ℕ_discrete}
use lib.ListN.{get_elem?}
use Rattle.pools.specs.declared.rule.Hand.{Hand}
use Rattle.pools.specs.Places.{one, times, without, total}

module _ {K : Type 0} where
  pub total_set : (f : Hand K → ℕ) (views : List (Hand K)) (pass : ℕ) (v w : Hand K) → get_elem? views pass ≡ some v → total f (set views pass w) + f v ≡ total f views + f w
  total_set f [] pass v w e = absurd (some-ne-none v (sym e))
  total_set f (x ∷ xs) zero v w e = let same : f x ≡ f v = ap f (some-injective x v e) in omega arith
  total_set f (x ∷ xs) (suc pass) v w e = let h = total_set f xs pass v w e in omega arith

  pub total_more : (f : Hand K → ℕ) (views : List (Hand K)) (w : Hand K) → total f (views ++ w ∷ []) ≡ total f views + f w
  total_more f [] w = omega arith
  total_more f (x ∷ xs) w = let h = total_more f xs w in omega arith

  pub below_total : (f : Hand K → ℕ) (views : List (Hand K)) (pass : ℕ) (v : Hand K) → get_elem? views pass ≡ some v → f v ≤ total f views
  below_total f [] pass v e = absurd (some-ne-none v (sym e))
  below_total f (x ∷ xs) zero v e = let same : f x ≡ f v = ap f (some-injective x v e) in omega arith
  below_total f (x ∷ xs) (suc pass) v e = let h = below_total f xs pass v e in omega arith

  -- in a list of one pass
  pub total_alone : (f : Hand K → ℕ) (views : List (Hand K)) (pass : ℕ) (v : Hand K) → length views ≡ 1 → get_elem? views pass ≡ some v → total f views ≡ f v
  total_alone f [] pass v one e = absurd (omega arith)
  total_alone f (x ∷ []) zero v one e = let same : f x ≡ f v = ap f (some-injective x v e) in omega arith
  total_alone f (x ∷ []) (suc pass) v one e = absurd (some-ne-none v (sym e))
  total_alone f (x ∷ y ∷ ys) pass v one e = absurd (omega arith)

  pub one_place : (views : List (Hand K)) (pass other : ℕ) (v u : Hand K) → length views ≡ 1 → get_elem? views pass ≡ some v → get_elem? views other ≡ some u → other ≡ pass
  one_place [] pass other v u one e d = absurd (omega arith)
  one_place (x ∷ []) zero zero v u one e d = refl
  one_place (x ∷ []) zero (suc other) v u one e d = absurd (some-ne-none u (sym d))
  one_place (x ∷ []) (suc pass) other v u one e d = absurd (some-ne-none v (sym e))
  one_place (x ∷ y ∷ ys) pass other v u one e d = absurd (omega arith)

module _ {L : Type 0} (number : L → ℕ) where
  pub times_both : (x : ℕ) (items more : List L) → times x (map number (items ++ more)) ≡ times x (map number items) + times x (map number more)
  times_both x [] more = omega arith
  times_both x (i ∷ is) more = let h = times_both x is more in omega arith

  pub times_more : (x : ℕ) (items : List L) (l : L) → times x (map number (items ++ l ∷ [])) ≡ times x (map number items) + one (eqb (number l) x)
  times_more x items l = let h = times_both x items (l ∷ []) in omega arith

  -- where no number stands twice, none stands before its item
  pub none_before : (before : List L) (l : L) (rest : List L) → times (number l) (map number (before ++ l ∷ rest)) ≤ 1 → times (number l) (map number before) ≡ 0
  none_before before l rest once =
      let h = times_both (number l) before (l ∷ rest) in
      let here : one (eqb (number l) (number l)) ≡ 1 = ap one (eq-eqb (number l) (number l) refl) in omega arith

pub times_without : (y x : ℕ) (held : List ℕ) → 0 < times y held → times x (without y held) + one (eqb y x) ≡ times x held
times_without y x [] some_there = absurd (omega arith)
times_without y x (z ∷ zs) some_there = dite (ℕ_discrete z y)
    (λ hit. rw (eq-eqb z y hit) (let e : one (eqb y x) ≡ one (eqb z x) = ap (λ n. one (eqb n x)) (sym hit) in omega arith))
    (λ miss.
    let more : 0 < times y zs = let f : 0 < one false + times y zs = subst (λ b. 0 < one b + times y zs) (ne_eqb z y miss) some_there in omega arith in
    let h = times_without y x zs more in
    rw (ne_eqb z y miss) (omega arith))

pub length_without : (y : ℕ) (held : List ℕ) → 0 < times y held → length (without y held) + 1 ≡ length held
length_without y [] some_there = absurd (omega arith)
length_without y (z ∷ zs) some_there = dite (ℕ_discrete z y) (λ hit. rw (eq-eqb z y hit) (omega arith))
    (λ miss.
    let more : 0 < times y zs = let f : 0 < one false + times y zs = subst (λ b. 0 < one b + times y zs) (ne_eqb z y miss) some_there in omega arith in
    let h = length_without y zs more in
    rw (ne_eqb z y miss) (omega arith))

-- a number that is not in the list may join it
pub once_more : (y x : ℕ) (xs : List ℕ) → times y xs ≡ 0 → times x xs ≤ 1 → times x (y ∷ xs) ≤ 1
once_more y x xs none once = dite (ℕ_discrete y x) (λ hit. let e : times x xs ≡ 0 = subst (λ n. times n xs ≡ 0) hit none in rw (eq-eqb y x hit) (omega arith)) (λ miss. rw (ne_eqb y x miss) (omega arith))
