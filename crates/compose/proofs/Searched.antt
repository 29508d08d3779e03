-- The first number that has something, as a search for a test finds it.
use Rattle.std.proofs.Common.{arith, ◌≡◌, ◌≤◌, ◌<◌, ◌⊎◌, inl, inr, ℕ, nat_le, Bool, true, false, Option, None, Some, IfSome, IfNone, sym, ◌∙◌, refl}
use Rattle.std.proofs.lemmas.Bool.Decides.{nat_tests}
use Rattle.compose.specs.Rules.{IsFirst}

compared : (m n : ℕ) → (m ≤ n) ⊎ (n < m)
compared m n = by (nat_le m n) refl
  where
    by : (b : Bool) → nat_le m n ≡ b → (m ≤ n) ⊎ (n < m)
    by true h = inl (grind (arith, nat_tests))
    by false h = inr (grind (arith, nat_tests))

-- where the test holds at n, n has it; and where j has it, the test holds up to there
module _ (P : ℕ → Type 0) (test : ℕ → Bool) (has : (n : ℕ) → test n ≡ true → P n) (tested : (j : ℕ) → P j → (n : ℕ) × ((n ≤ j) × (test n ≡ true))) where
  least : (n : ℕ) → ((k : ℕ) → k < n → test k ≡ false) → (j : ℕ) → P j → n ≤ j
  least n before j p = by (compared n (tested j p).0)
    where
      by : (n ≤ (tested j p).0) ⊎ ((tested j p).0 < n) → n ≤ j
      by (inl h) = let w = (tested j p).1.0 in omega (arith, h, w)
      by (inr h) = let e : ◌≡◌ {A = Bool} true false = sym (tested j p).1.1 ∙ before (tested j p).0 h in cc

  pub searched : (first : Option ℕ) → IfSome first (λ n. (test n ≡ true) × ((k : ℕ) → k < n → test k ≡ false)) → IfNone first ((k : ℕ) → test k ≡ false) → IsFirst P first
  searched None some none = λ j p. let e : ◌≡◌ {A = Bool} true false = sym (tested j p).1.1 ∙ none (tested j p).0 in cc
  searched (Some n) some none = (has n some.0, least n some.1)
