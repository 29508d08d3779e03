-- The leases of an exchange at its start have numbers of their own and one setup.
use Rattle.std.proofs.Common.{◌≡◌, ◌≢◌, ℕ, zero, suc, ◌+◌, ◌≤◌, ◌<◌, ◌⊎◌, inl, inr, ◌∷◌, All, map, refl, ap, sym, subst, arith, eq-eqb, ne_eqb}
use Rattle.std.specs.Prelude.{Option, Some}
use Rattle.std.specs.List.{range_with_len}
use Rattle.std.proofs.lemmas.Bool.{cases_eq}
use Rattle.std.proofs.lemmas.List.Elements.{All-nil, All-cons}
use Rattle.task_seed.specs.declared.setup.Setup.{Setup}
use Rattle.task_seed.specs.declared.turns.Turn.{Turn}
use Rattle.pools.specs.Places.{times, AreAlike, AreOnce}
use Rattle.exchange.specs.LeaseView.{LeaseView}
use Rattle.exchange.specs.Start.{number_of, setup_of, start_holding}

none_below : (x a n : ℕ) → x < a → times x (range_with_len a n) ≡ 0
none_below x a zero low = refl
none_below x a (suc n) low =
    let rest = none_below x (a + 1) n (omega (arith, low)) in
    let other : a ≢ x = λ e. omega (arith, e, low) in
    rw (ne_eqb a x other) (omega (arith, rest))

once_each : (x a n : ℕ) → times x (range_with_len a n) ≤ 1
once_each x a zero = omega arith
once_each x a (suc n) = go (once_each x (a + 1) n) (cases_eq a x)
  where
    go : times x (range_with_len (a + 1) n) ≤ 1 → (a ≡ x) ⊎ (a ≡ x → ⊥) → times x (range_with_len a (suc n)) ≤ 1
    go rest (inl hit) = let none = none_below x (a + 1) n (omega (arith, hit)) in rw (eq-eqb a x hit) (omega (arith, none))
    go rest (inr miss) = rw (ne_eqb a x miss) (omega (arith, rest))

module _ {T : Type 0} (turn_of : T → ℕ → ℕ → Option Turn) (setup : Setup T) where
  numbers_are : (a n : ℕ) → map number_of (map (start_holding turn_of setup) (range_with_len a n)) ≡ range_with_len a n
  numbers_are a zero = refl
  numbers_are a (suc n) = ap (λ l. a ∷ l) (numbers_are (a + 1) n)

  pub once_from : (a n : ℕ) → AreOnce (map number_of (map (start_holding turn_of setup) (range_with_len a n)))
  once_from a n x = subst (λ l. times x l ≤ 1) (sym (numbers_are a n)) (once_each x a n)

  each_of : (a n : ℕ) → All (λ (l : LeaseView (Setup T)). Some setup ≡ Some (setup_of l)) (map (start_holding turn_of setup) (range_with_len a n))
  each_of a zero = All-nil _
  each_of a (suc n) = All-cons (λ (l : LeaseView (Setup T)). Some setup ≡ Some (setup_of l)) (start_holding turn_of setup a) _ refl (each_of (a + 1) n)

  pub alike_from : (a n : ℕ) → AreAlike setup_of (map (start_holding turn_of setup) (range_with_len a n))
  alike_from a zero = All-nil _
  alike_from a (suc n) = each_of a (suc n)
