-- Each step of a seat keeps the rule of the published word.
use Rattle.std.proofs.Common.{◌≡◌, ℕ, zero, suc, ◌≤◌, List, [], ◌∷◌, ◌++◌, max, get_or, set, sym, refl, ap, ◌∙◌, subst, ⊎_elim, arith, length-set, get_or-set_same}
use mathlib.Core.Option.{some, some-injective, some-ne-none}
use lib.ListN.{get_elem?}
use Rattle.atomic_table.specs.Table.{State, Me, keeps, Allows, Splits}
use Rattle.atomic_table.proofs.Lists.{at_set, at_snoc, set_again}
use Rattle.gvt.specs.declared.rule.Known.{Known}
use Rattle.gvt.specs.Counts.{known, greatest, IsKept, Raises, Loads}

below_greatest : (views : List Known) (id : ℕ) (v : Known) → get_elem? views id ≡ some v → v.published ≤ greatest views
below_greatest [] id v e = absurd (some-ne-none v (sym e))
below_greatest (x ∷ xs) zero v e = let same : x.published ≡ v.published = ap (λ (y : Known). y.published) (some-injective x v e) in omega arith
below_greatest (x ∷ xs) (suc id) v e = let h = below_greatest xs id v e in omega arith

greatest_set : (views : List Known) (id : ℕ) (v : Known) (k r : ℕ) → get_elem? views id ≡ some v → greatest (set views id (known (max v.published k) r)) ≡ max (greatest views) k
greatest_set [] id v k r e = absurd (some-ne-none v (sym e))
greatest_set (x ∷ xs) zero v k r e = let same : x.published ≡ v.published = ap (λ (y : Known). y.published) (some-injective x v e) in omega arith
greatest_set (x ∷ xs) (suc id) v k r e = let h = greatest_set xs id v k r e in omega arith

greatest_same : (views : List Known) (id : ℕ) (v : Known) (r : ℕ) → get_elem? views id ≡ some v → greatest (set views id (known v.published r)) ≡ greatest views
greatest_same [] id v r e = absurd (some-ne-none v (sym e))
greatest_same (x ∷ xs) zero v r e = let same : x.published ≡ v.published = ap (λ (y : Known). y.published) (some-injective x v e) in omega arith
greatest_same (x ∷ xs) (suc id) v r e = let h = greatest_same xs id v r e in omega arith

greatest_newcomer : (views : List Known) → greatest (views ++ known 0 0 ∷ []) ≡ greatest views
greatest_newcomer [] = refl
greatest_newcomer (x ∷ xs) = let h = greatest_newcomer xs in omega arith

module _ (slots id : ℕ) (me : Me (Unit {0}) Known) where
  pub raises : (k : ℕ) → Allows (λ s. IsKept s.words s.views) slots id me 0 (λ n. max n k) (λ _ m. Raises k me.0 m.0)
  raises k s kept _ at _ = let w = known (max me.0.published k) me.0.read in (
    w,
    keeps,
    tt,
    (
      length-set s.words 0 _ ∙ kept.0,
      (let h = greatest_set s.views id me.0 k me.0.read at in let n = get_or-set_same s.words 0 (max (get_or s.words 0 0) k) 0 (omega arith) in let e = kept.1 in omega arith),
      λ seat v e.
          let n = get_or-set_same s.words 0 (max (get_or s.words 0 0) k) 0 (omega arith) in
          ⊎_elim (λ (x : (seat ≡ id) × (w ≡ v)). let r : me.0.read ≡ v.read = ap (λ (y : Known). y.read) x.1 in let h = kept.2 id me.0 at in omega arith)
          (λ x. let h = kept.2 seat v x.1 in omega arith) (at_set s.views id seat w v e),
    ),
    refl,
  )

  pub loads : Allows (λ s. IsKept s.words s.views) slots id me 0 (λ n. n) (λ found m. Loads found me.0 m.0)
  loads s kept _ at _ = let x : ℕ = get_or s.words 0 0 in let w = known me.0.published x in let n = get_or-set_same s.words 0 x 0 (omega arith) in (
    w,
    keeps,
    tt,
    (
      length-set s.words 0 _ ∙ kept.0,
      n ∙ (kept.1 ∙ sym (greatest_same s.views id me.0 x at)),
      λ seat v e. ⊎_elim (λ (y : (seat ≡ id) × (w ≡ v)). let r : x ≡ v.read = ap (λ (z : Known). z.read) y.1 in omega arith) (λ y. let h = kept.2 seat v y.1 in omega arith) (at_set s.views id seat w v e),
    ),
    (refl, (let h = below_greatest s.views id me.0 at in let e = kept.1 in omega arith), kept.2 id me.0 at),
  )

pub admits : (id : ℕ) (v : Known) → Splits (λ (s : State (Unit {0}) Known). IsKept s.words s.views) id v v (known 0 0)
admits id v s kept at = let same = set_again s.views id v at in (
  kept.0,
  kept.1 ∙ sym (greatest_newcomer (set s.views id v) ∙ ap greatest same),
  λ seat w e.
      ⊎_elim (λ (x : get_elem? (set s.views id v) seat ≡ some w). kept.2 seat w (subst (λ l. get_elem? l seat ≡ some w) same x))
      (λ (x : known 0 0 ≡ w). let r : 0 ≡ w.read = ap (λ (z : Known). z.read) x in omega arith) (at_snoc (set s.views id v) (known 0 0) w seat e),
)

pub opens : IsKept (0 ∷ []) (known 0 0 ∷ [])
opens = (refl, refl, one)
  where
    one : (seat : ℕ) (v : Known) → get_elem? (known 0 0 ∷ []) seat ≡ some v → v.read ≤ 0
    one zero v e = let r : 0 ≡ v.read = ap (λ (z : Known). z.read) (some-injective (known 0 0) v e) in omega arith
    one (suc seat) v e = absurd (some-ne-none v (sym e))
