-- One tuple more in a loop over the tuples of an entry: actions made, counted, and sought.
use Rattle.std.specs.Prelude.{◌≡◌, ℕ, zero, suc, ◌+◌, ◌-◌, ◌<◌, ◌≤◌, Bool as Truth, true, false, cond, List, [], ◌∷◌, ◌++◌, map, filter, length, take, drop, get_or, slice_get, Option, Some, refl}
use Rattle.std.proofs.Common.{arith, ap, sym, ◌∙◌, append_assoc}
use Rattle.std.proofs.lemmas.List.{length-append, map-append, drop_more, length-map}
use Rattle.std.proofs.lemmas.List.Elements.{filter_more}
use Rattle.terms.specs.Named.{Named}
use Rattle.terms.specs.declared.scalar.Scalar.{Scalar}
use Rattle.io_automata.specs.Outcomes.{named}

module _ (n : ℕ) (test : List Scalar → Truth) (ts : List (List Scalar)) (k : ℕ) (t : List Scalar) (below : k < length ts) (there : get_or ts k t ≡ t) (holding : Truth) (holds : holding ≡ test t) where
  kept_more : filter test (take (k + 1) ts) ≡ filter test (take k ts) ++ cond holding (t ∷ []) []
  kept_more =
      filter_more test ts k t below
      ∙ ap (λ x. filter test (take k ts) ++ cond (test x) (x ∷ []) []) there
      ∙ ap (λ b. filter test (take k ts) ++ cond b (t ∷ []) []) (sym holds)

  made_of : (b : Truth) → map (named n) (cond b (t ∷ []) []) ≡ cond b (named n t ∷ []) []
  made_of true = refl
  made_of false = refl

  length_of : (b : Truth) → length (cond b (t ∷ []) []) ≡ cond b 1 0
  length_of true = refl
  length_of false = refl

  -- the actions that are made
  pub made_more : (args : List Scalar) (first old new : List Named) → args ≡ t → old ≡ first ++ map (named n) (filter test (take k ts)) → new ≡ old ++ cond holding (named n args ∷ []) [] → new ≡ first ++ map (named n) (filter test (take (k + 1) ts))
  made_more args first old new is before after =
      let one = cond holding (named n t ∷ []) [] in
      let had = map (named n) (filter test (take k ts)) in
      after
      ∙ ap (λ x. old ++ cond holding (named n x ∷ []) []) is
      ∙ ap (λ xs. xs ++ one) before
      ∙ append_assoc first had one
      ∙ ap (λ xs. first ++ (had ++ xs)) (sym (made_of holding))
      ∙ ap (λ xs. first ++ xs) (sym (map-append (named n) (filter test (take k ts)) (cond holding (t ∷ []) [])))
      ∙ ap (λ xs. first ++ map (named n) xs) (sym kept_more)

  -- their number
  pub counted_more : (count next : ℕ) → count ≡ length (map (named n) (filter test (take k ts))) → next ≡ count + cond holding 1 0 → next ≡ length (map (named n) (filter test (take (k + 1) ts)))
  counted_more count next before after =
      after
      ∙ (λ i. before i + sym (length_of holding) i)
      ∙ ap (λ (m : ℕ). m + length (cond holding (t ∷ []) [])) (length-map (filter test (take k ts)) (named n))
      ∙ sym (length-append (filter test (take k ts)) (cond holding (t ∷ []) []))
      ∙ ap length (sym kept_more)
      ∙ sym (length-map (filter test (take (k + 1) ts)) (named n))

  kept_first : filter test (drop k ts) ≡ cond holding (t ∷ filter test (drop (k + 1) ts)) (filter test (drop (k + 1) ts))
  kept_first =
      ap (filter test) (drop_more ts k t below)
      ∙ ap (λ x. cond (test x) (x ∷ filter test (drop (k + 1) ts)) (filter test (drop (k + 1) ts))) there
      ∙ ap (λ b. cond b (t ∷ filter test (drop (k + 1) ts)) (filter test (drop (k + 1) ts))) (sym holds)

  -- what is sought is still to come
  pub sought_more : (left next : ℕ) (found : Option Named) → (holding ≡ true → 0 < left) → slice_get (map (named n) (filter test (drop k ts))) left ≡ found → next ≡ left - cond holding 1 0 → slice_get (map (named n) (filter test (drop (k + 1) ts))) next ≡ found
  sought_more left next found some before after = go holding some (sym (ap (λ xs. slice_get (map (named n) xs) left) kept_first) ∙ before) after where
    rest : List Named
    rest = map (named n) (filter test (drop (k + 1) ts))

    go : (b : Truth) → (b ≡ true → 0 < left) → slice_get (map (named n) (cond b (t ∷ filter test (drop (k + 1) ts)) (filter test (drop (k + 1) ts)))) left ≡ found → next ≡ left - cond b 1 0 → slice_get rest next ≡ found
    go true some is after = step left (some refl) is after where
      step : (left : ℕ) → 0 < left → slice_get (named n t ∷ rest) left ≡ found → next ≡ left - 1 → slice_get rest next ≡ found
      step zero some is after = absurd (omega (arith, some))
      step (suc left) some is after = let same : next ≡ left = omega (arith, after) in ap (slice_get rest) same ∙ is
    go false some is after = let same : next ≡ left = omega (arith, after) in ap (slice_get rest) same ∙ is

  -- what is sought is here
  pub sought_here : (args : List Scalar) (left : ℕ) (found : Option Named) → args ≡ t → holding ≡ true → left ≡ 0 → slice_get (map (named n) (filter test (drop k ts))) left ≡ found → Some (named n args) ≡ found
  sought_here args left found is passes none before =
      ap (λ x. Some (named n x)) is
      ∙ sym (ap (slice_get (map (named n) (cond true (t ∷ filter test (drop (k + 1) ts)) (filter test (drop (k + 1) ts))))) none)
      ∙ sym (ap (λ b. slice_get (map (named n) (cond b (t ∷ filter test (drop (k + 1) ts)) (filter test (drop (k + 1) ts)))) left) passes)
      ∙ sym (ap (λ xs. slice_get (map (named n) xs) left) kept_first)
      ∙ before

fewer : (test : List Scalar → Truth) (ts : List (List Scalar)) → length (filter test ts) ≤ length ts
fewer test [] = omega arith
fewer test (t ∷ ts) = go (fewer test ts) (test t) where
  go : length (filter test ts) ≤ length ts → (b : Truth) → length (cond b (t ∷ filter test ts) (filter test ts)) ≤ length (t ∷ ts)
  go rest true = omega (arith, rest)
  go rest false = omega (arith, rest)

all_kept : (test : List Scalar → Truth) (ts : List (List Scalar)) → length (filter test ts) ≡ length ts → filter test ts ≡ ts
all_kept test [] every = refl
all_kept test (t ∷ ts) every = go (λ e. all_kept test ts e) (test t) every where
  go : (length (filter test ts) ≡ length ts → filter test ts ≡ ts) → (b : Truth) → length (cond b (t ∷ filter test ts) (filter test ts)) ≡ length (t ∷ ts) → cond b (t ∷ filter test ts) (filter test ts) ≡ t ∷ ts
  go rest true e = let same : length (filter test ts) ≡ length ts = omega (arith, e) in ap (λ us. t ∷ us) (rest same)
  go rest false e = let less = fewer test ts in absurd (omega (arith, e, less))

made_there : (n : ℕ) (ts : List (List Scalar)) (k : ℕ) (t : List Scalar) → k < length ts → slice_get (map (named n) ts) k ≡ Some (named n (get_or ts k t))
made_there n [] k t below = absurd (omega (arith, below))
made_there n (u ∷ us) zero t below = refl
made_there n (u ∷ us) (suc k) t below = made_there n us k t (omega (arith, below))

-- where all tuples are kept, the action at a place is that of the tuple there
pub all_there : (n : ℕ) (test : List Scalar → Truth) (ts : List (List Scalar)) (k : ℕ) (t : List Scalar) → k < length ts → get_or ts k t ≡ t → length (map (named n) (filter test ts)) ≡ length ts → Some (named n t) ≡ slice_get (map (named n) (filter test ts)) k
all_there n test ts k t below there every =
    let kept : filter test ts ≡ ts = all_kept test ts (sym (length-map (filter test ts) (named n)) ∙ every) in
    sym (ap (λ xs. slice_get (map (named n) xs) k) kept ∙ made_there n ts k t below ∙ ap (λ x. Some (named n x)) there)
