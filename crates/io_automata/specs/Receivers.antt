-- The receivers of an action: each once, in order, and all that take it.
use Rattle.std.specs.Prelude.{◌≡◌, ℕ, zero, suc, ◌+◌, ◌<◌, ◌≤◌, ◌==◌, ◌||◌, ◌&&◌, not, nat_lt, Bool, true, false, cond, List, [], ◌∷◌, filter, refl, length}
use Rattle.std.specs.List.{range_with_len}
use Rattle.std.proofs.Common.{arith, ap, sym, ◌∙◌}
use Rattle.std.proofs.lemmas.Bool.{ltb-true, ltb-false}
use Rattle.std.proofs.lemmas.Bool.Decides.{nat_tests}
use Rattle.terms.specs.Named.{Named}
use Rattle.io_automata.specs.Automata.{Instance, component_at, absent}
use Rattle.io_automata.specs.Signatures.{receives, receivers_of, inputs, acts, takers_of}

-- strictly rising, from a on
abbrev pub Rising : ℕ → List ℕ → Type 0
Rising a [] = Unit {0}
Rising a (x ∷ xs) = (a ≤ x) × Rising (x + 1) xs

abbrev pub IsIn : ℕ → List ℕ → Bool
IsIn j [] = false
IsIn j (x ∷ xs) = (j == x) || IsIn j xs

later : (a b : ℕ) (xs : List ℕ) → a ≤ b → Rising b xs → Rising a xs
later a b [] h r = tt
later a b (x ∷ xs) h r = (omega (arith, r.0), r.1)

pub kept_rising : (p : ℕ → Bool) (a n : ℕ) → Rising a (filter p (range_with_len a n))
kept_rising p a zero = tt
kept_rising p a (suc n) = go (kept_rising p (a + 1) n) (p a) where
  go : Rising (a + 1) (filter p (range_with_len (a + 1) n)) → (b : Bool) → Rising a (cond b (a ∷ filter p (range_with_len (a + 1) n)) (filter p (range_with_len (a + 1) n)))
  go r true = (omega arith, r)
  go r false = later a (a + 1) (filter p (range_with_len (a + 1) n)) (omega arith) r

pub receivers_rise : (composition : List Instance) (a : Named) (i : ℕ) → Rising 0 (receivers_of composition a i)
receivers_rise composition a i = kept_rising (receives composition i a) 0 (length composition)

same_number : (i : ℕ) → (i == i) ≡ true
same_number i = grind (arith, nat_tests)

pub no_own : (composition : List Instance) (a : Named) (i : ℕ) → receives composition i a i ≡ false
no_own composition a i = ap (λ b. not b && inputs composition i a) (same_number i)

not_in : (p : ℕ → Bool) (j a n : ℕ) → j < a → IsIn j (filter p (range_with_len a n)) ≡ false
not_in p j a zero h = refl
not_in p j a (suc n) h = go (not_in p j (a + 1) n (omega arith)) (p a) where
  e : (j == a) ≡ false
  e = grind (arith, nat_tests)

  go : IsIn j (filter p (range_with_len (a + 1) n)) ≡ false → (b : Bool) → IsIn j (cond b (a ∷ filter p (range_with_len (a + 1) n)) (filter p (range_with_len (a + 1) n))) ≡ false
  go rest true = ap (λ b. b || IsIn j (filter p (range_with_len (a + 1) n))) e ∙ rest
  go rest false = rest

equal_from : (j a : ℕ) → (j == a) ≡ true → j ≡ a
equal_from j a h = grind (arith, nat_tests)

above_from : (j a : ℕ) → a ≤ j → (j == a) ≡ false → a + 1 ≤ j
above_from j a l h = grind (arith, nat_tests)

pub is_kept : (p : ℕ → Bool) (j a n : ℕ) → a ≤ j → j < a + n → IsIn j (filter p (range_with_len a n)) ≡ p j
is_kept p j a zero l h = absurd (omega arith)
is_kept p j a (suc n) l h = at (λ k. is_kept p j (a + 1) n k (omega arith)) (j == a) refl where
  at : (a + 1 ≤ j → IsIn j (filter p (range_with_len (a + 1) n)) ≡ p j) → (s : Bool) → (j == a) ≡ s → IsIn j (cond (p a) (a ∷ filter p (range_with_len (a + 1) n)) (filter p (range_with_len (a + 1) n))) ≡ p j
  at f true e = here (p a) refl where
    same : j ≡ a
    same = equal_from j a e

    here : (b : Bool) → p a ≡ b → IsIn j (cond b (a ∷ filter p (range_with_len (a + 1) n)) (filter p (range_with_len (a + 1) n))) ≡ p j
    here true i = ap (λ s. s || IsIn j (filter p (range_with_len (a + 1) n))) e ∙ sym (ap p same ∙ i)
    here false i = not_in p j (a + 1) n (omega (arith, same)) ∙ sym (ap p same ∙ i)
  at f false e = there (f (above_from j a l e)) (p a) where
    there : IsIn j (filter p (range_with_len (a + 1) n)) ≡ p j → (b : Bool) → IsIn j (cond b (a ∷ filter p (range_with_len (a + 1) n)) (filter p (range_with_len (a + 1) n))) ≡ p j
    there r true = ap (λ s. s || IsIn j (filter p (range_with_len (a + 1) n))) e ∙ r
    there r false = r

pub not_above : (p : ℕ → Bool) (j a n : ℕ) → a + n ≤ j → IsIn j (filter p (range_with_len a n)) ≡ false
not_above p j a zero h = refl
not_above p j a (suc n) h = go (not_above p j (a + 1) n (omega arith)) (p a) where
  e : (j == a) ≡ false
  e = grind (arith, nat_tests)

  go : IsIn j (filter p (range_with_len (a + 1) n)) ≡ false → (b : Bool) → IsIn j (cond b (a ∷ filter p (range_with_len (a + 1) n)) (filter p (range_with_len (a + 1) n))) ≡ false
  go rest true = ap (λ b. b || IsIn j (filter p (range_with_len (a + 1) n))) e ∙ rest
  go rest false = rest

-- a component that isn't there has no entries, and so no inputs
pub past_absent : (composition : List Instance) (j : ℕ) → length composition ≤ j → component_at composition j ≡ absent
past_absent [] j h = refl
past_absent (x ∷ xs) zero h = absurd (omega arith)
past_absent (x ∷ xs) (suc j) h = past_absent xs j (omega arith)

pub none_past : (composition : List Instance) (a : Named) (i j : ℕ) → length composition ≤ j → receives composition i a j ≡ false
none_past composition a i j h = rw (past_absent composition j h) (none (not (j == i))) where
  none : (b : Bool) → (b && false) ≡ false
  none true = refl
  none false = refl

pub receivers_all : (composition : List Instance) (a : Named) (i j : ℕ) → IsIn j (receivers_of composition a i) ≡ receives composition i a j
receivers_all composition a i j = go (nat_lt j (length composition)) refl where
  go : (b : Bool) → nat_lt j (length composition) ≡ b → IsIn j (receivers_of composition a i) ≡ receives composition i a j
  go true h = let within : j < length composition = ltb-true j (length composition) h in is_kept (receives composition i a) j 0 (length composition) (omega arith) (omega arith)
  go false h =
      let past : length composition ≤ j = ltb-false j (length composition) h in
      not_above (receives composition i a) j 0 (length composition) (omega arith) ∙ sym (none_past composition a i j past)

-- numbers of components, each once and in order, and among them all that receive an action of the sender
pub record AreCandidates (composition : List Instance) (action : Named) (sender : ℕ) (found : List ℕ) : Type 0 where
  pub rising : Rising 0 found
  pub within : (j : ℕ) → IsIn j found ≡ true → j < length composition
  pub all : (j : ℕ) → receives composition sender action j ≡ true → IsIn j found ≡ true

-- what is kept passes the test
pub kept_passes : (p : ℕ → Bool) (j : ℕ) (xs : List ℕ) → IsIn j (filter p xs) ≡ true → p j ≡ true
kept_passes p j [] h = cc
kept_passes p j (x ∷ xs) h = go (λ g. kept_passes p j xs g) (p x) refl h where
  here : p x ≡ true → (b : Bool) → (j == x) ≡ b → (IsIn j (filter p xs) ≡ true → p j ≡ true) → (b || IsIn j (filter p xs)) ≡ true → p j ≡ true
  here passes true e rest g = let same : j ≡ x = equal_from j x e in ap p same ∙ passes
  here passes false e rest g = rest g

  go : (IsIn j (filter p xs) ≡ true → p j ≡ true) → (b : Bool) → p x ≡ b → IsIn j (cond b (x ∷ filter p xs) (filter p xs)) ≡ true → p j ≡ true
  go rest true passes g = here passes (j == x) refl rest g
  go rest false fails g = rest g

both : (a b : Bool) → (a && b) ≡ true → b ≡ true
both true b h = h
both false b h = cc

-- whoever receives an action has it as an input
pub receiver_input : (composition : List Instance) (a : Named) (i j : ℕ) → IsIn j (receivers_of composition a i) ≡ true → inputs composition j a ≡ true
receiver_input composition a i j h = both (not (j == i)) (inputs composition j a) (kept_passes (receives composition i a) j (range_with_len 0 (length composition)) h)

-- the components that have an action are listed once and in order, and no others
pub takers_rise : (composition : List Instance) (a : Named) → Rising 0 (takers_of composition a)
takers_rise composition a = kept_rising (λ j. acts composition j a) 0 (length composition)

pub takers_all : (composition : List Instance) (a : Named) (j : ℕ) → IsIn j (takers_of composition a) ≡ acts composition j a
takers_all composition a j = go (nat_lt j (length composition)) refl where
  go : (b : Bool) → nat_lt j (length composition) ≡ b → IsIn j (takers_of composition a) ≡ acts composition j a
  go true h = let within : j < length composition = ltb-true j (length composition) h in is_kept (λ i. acts composition i a) j 0 (length composition) (omega arith) (omega arith)
  go false h =
      let past : length composition ≤ j = ltb-false j (length composition) h in
      not_above (λ i. acts composition i a) j 0 (length composition) (omega arith) ∙ sym (rw (past_absent composition j past) refl)

pub ruleset laws = (receivers_rise, no_own, receivers_all, receiver_input)
