-- The reference below a bound is a beginning of the one below a greater bound.
use Rattle.std.proofs.Common.{◌≡◌, ℕ, zero, suc, ◌+◌, ◌-◌, ◌<◌, ◌≤◌, ◌⊎◌, inl, inr, Option, None, Some, List, [], ◌∷◌, ◌++◌, length, refl, ap, sym, ◌∙◌, arith, length-append}
use Rattle.std.proofs.lemmas.List.{append_assoc}
use Rattle.std.proofs.lemmas.Bool.{cases_lt}
use Rattle.virtual_time.specs.Machine.{Machine}
use Rattle.virtual_time.specs.Reference.{Turn, add_turn, after, next_turn, reference_below}

module _ {S A : Type 0} (m : Machine S A) where
  added : (k : ℕ) (o : Option (Option A)) (ts : List (Turn A)) → (extra : List (Turn A)) × (add_turn k o ts ≡ extra ++ ts)
  added k None ts = ([], refl)
  added k (Some o) ts = (record { key = k; outcome = o } ∷ [], refl)

  -- more turns come in front
  pub grows : (b d : ℕ) → (extra : List (Turn A)) × (reference_below m (d + b) ≡ extra ++ reference_below m b)
  grows b zero = ([], ap (reference_below m) (let e : 0 + b ≡ b = omega arith in e))
  grows b (suc d) = go (grows b d) (added (d + b) (next_turn m (d + b) (after m (reference_below m (d + b)))) (reference_below m (d + b)))
    where
      go : (extra : List (Turn A)) × (reference_below m (d + b) ≡ extra ++ reference_below m b)
          → (extra : List (Turn A)) × (add_turn (d + b) (next_turn m (d + b) (after m (reference_below m (d + b)))) (reference_below m (d + b)) ≡ extra ++ reference_below m (d + b))
          → (extra : List (Turn A)) × (reference_below m (suc d + b) ≡ extra ++ reference_below m b)
      go rest one =
          let next : suc d + b ≡ suc (d + b) = omega arith in
          (one.0 ++ rest.0, ap (reference_below m) next ∙ one.1 ∙ ap (λ l. one.0 ++ l) rest.1 ∙ sym (append_assoc one.0 rest.0 (reference_below m b)))

  pub grown : (b c : ℕ) → b ≤ c → (extra : List (Turn A)) × (reference_below m c ≡ extra ++ reference_below m b)
  grown b c low =
      let found = grows b (c - b) in
      let same : (c - b) + b ≡ c = omega (arith, low) in
      (found.0, ap (reference_below m) (sym same) ∙ found.1)

  none_more : (extra ts us : List (Turn A)) → us ≡ extra ++ ts → length us ≡ length ts → us ≡ ts
  none_more [] ts us e n = e
  none_more (t ∷ extra) ts us e n = absurd (let l = ap length e in omega (arith, l, n, length-append extra ts))

  -- as many turns are the same turns
  pub as_many : (b c : ℕ) → length (reference_below m b) ≡ length (reference_below m c) → reference_below m b ≡ reference_below m c
  as_many b c n = go (cases_lt b c)
    where
      go : (b < c) ⊎ (c ≤ b) → reference_below m b ≡ reference_below m c
      go (inl low) = let found = grown b c (omega (arith, low)) in sym (none_more found.0 (reference_below m b) (reference_below m c) found.1 (sym n))
      go (inr high) = let found = grown c b high in none_more found.0 (reference_below m c) (reference_below m b) found.1 n
