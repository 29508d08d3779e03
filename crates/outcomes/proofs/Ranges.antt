-- What a test keeps of numbers that follow each other.
use Rattle.std.specs.Prelude.{◌≡◌, ℕ, zero, suc, ◌+◌, ◌<◌, Bool as Truth, true, false, cond, [], ◌∷◌, ◌++◌, filter, refl}
use Rattle.std.specs.List.{range_with_len}
use Rattle.std.proofs.Common.{arith, ap, sym, ◌∙◌}
use Rattle.std.proofs.lemmas.List.Elements.{filter-append}

-- numbers that follow each other, in two parts
pub in_parts : (from a b : ℕ) → range_with_len from (a + b) ≡ range_with_len from a ++ range_with_len (from + a) b
in_parts from zero b =
    let none : 0 + b ≡ b = omega arith in
    let same : from ≡ from + 0 = omega arith in
    ap (range_with_len from) none ∙ ap (λ (n : ℕ). range_with_len n b) same
in_parts from (suc a) b =
    let more : suc a + b ≡ suc (a + b) = omega arith in
    let same : from + 1 + a ≡ from + suc a = omega arith in
    ap (range_with_len from) more
    ∙ ap (λ xs. from ∷ xs) (in_parts (from + 1) a b)
    ∙ ap (λ (n : ℕ). from ∷ (range_with_len (from + 1) a ++ range_with_len n b)) same

module _ (f : ℕ → Truth) where
  pub kept_in_parts : (from a b : ℕ) → filter f (range_with_len from (a + b)) ≡ filter f (range_with_len from a) ++ filter f (range_with_len (from + a) b)
  kept_in_parts from a b = ap (filter f) (in_parts from a b) ∙ filter-append f (range_with_len from a) (range_with_len (from + a) b)

  first_is : (from : ℕ) (b : Truth) → f (from + 0) ≡ b → f from ≡ b
  first_is from b h = let same : from ≡ from + 0 = omega arith in ap f same ∙ h

  next_is : (from j : ℕ) (b : Truth) → f (from + suc j) ≡ b → f (from + 1 + j) ≡ b
  next_is from j b h = let same : from + 1 + j ≡ from + suc j = omega arith in ap f same ∙ h

  -- all are kept
  pub kept_all : (from count : ℕ) → ((j : ℕ) → j < count → f (from + j) ≡ true) → filter f (range_with_len from count) ≡ range_with_len from count
  kept_all from zero all = refl
  kept_all from (suc n) all =
      let here = first_is from true (all 0 (omega arith)) in
      let rest = kept_all (from + 1) n (λ j less. next_is from j true (all (suc j) (omega (arith, less)))) in
      ap (λ b. cond b (from ∷ filter f (range_with_len (from + 1) n)) (filter f (range_with_len (from + 1) n))) here
      ∙ ap (λ xs. from ∷ xs) rest

  -- none is kept
  pub kept_none : (from count : ℕ) → ((j : ℕ) → j < count → f (from + j) ≡ false) → filter f (range_with_len from count) ≡ []
  kept_none from zero all = refl
  kept_none from (suc n) all =
      let here = first_is from false (all 0 (omega arith)) in
      let rest = kept_none (from + 1) n (λ j less. next_is from j false (all (suc j) (omega (arith, less)))) in
      ap (λ b. cond b (from ∷ filter f (range_with_len (from + 1) n)) (filter f (range_with_len (from + 1) n))) here
      ∙ rest

-- two tests that agree keep the same
pub kept_same : (f g : ℕ → Truth) (from count : ℕ) → ((j : ℕ) → j < count → f (from + j) ≡ g (from + j)) → filter f (range_with_len from count) ≡ filter g (range_with_len from count)
kept_same f g from zero all = refl
kept_same f g from (suc n) all =
    let same : from ≡ from + 0 = omega arith in
    let here : f from ≡ g from = ap f same ∙ all 0 (omega arith) ∙ ap g (sym same) in
    let rest = kept_same f g (from + 1) n (λ j less. let other : from + 1 + j ≡ from + suc j = omega arith in ap f other ∙ all (suc j) (omega (arith, less)) ∙ ap g (sym other)) in
    λ i. cond (here i) (from ∷ rest i) (rest i)
