-- What is known of one automaton more.
use Rattle.std.specs.Prelude.{◌≡◌, ◌⊎◌, ℕ, zero, suc, ◌+◌, ◌<◌, ◌≤◌, List, [], ◌∷◌, ◌++◌, map, length, slice_get, is_some, Some, refl}
use Rattle.std.proofs.Common.{arith, ap, sym, subst, inl, inr, ◌∙◌}
use Rattle.std.proofs.lemmas.Bool.{cases_lt, true≢false}
use Rattle.io_automata.specs.Automata.{transition_of}
use Rattle.io_automata.specs.declared.automaton.Automaton.{Automaton}
use Rattle.outcomes.specs.Tasks.{IsKnown}
use Rattle.outcomes.specs.declared.task.Known.{Known}
use Rattle.plans.specs.Known.{AreKnown, AreKnownTo, IsKnownBy}

some_same : {X : Type 0} (a b : X) → Some a ≡ Some b → a ≡ b
some_same a b e = cc

within : {X : Type 0} (xs ys : List X) (k : ℕ) → k < length xs → slice_get (xs ++ ys) k ≡ slice_get xs k
within [] ys k below = absurd (omega (arith, below))
within (x ∷ xs) ys zero below = refl
within (x ∷ xs) ys (suc k) below = within xs ys k (omega (arith, below))

last : {X : Type 0} (xs : List X) (x : X) → slice_get (xs ++ x ∷ []) (length xs) ≡ Some x
last [] x = refl
last (y ∷ ys) x = last ys x

below_length : {X : Type 0} (xs : List X) (k : ℕ) (x : X) → slice_get xs k ≡ Some x → k < length xs
below_length [] k x is = absurd (true≢false (sym (ap is_some is)))
below_length (y ∷ ys) zero x is = omega arith
below_length (y ∷ ys) (suc k) x is = let rest = below_length ys k x is in omega (arith, rest)

-- one more
pub known_more : (automata : List Automaton) (known : List Known) (k : ℕ) (automaton : Automaton) (new : Known) → AreKnownTo k automata known → length known ≡ k → slice_get automata k ≡ Some automaton → IsKnown (map transition_of automaton.entries.items) new → AreKnownTo (k + 1) automata (known ++ new ∷ [])
known_more automata known k automaton new are long at here n other below there = go (cases_lt n k) where
  go : (n < k) ⊎ (k ≤ n) → IsKnownBy (map transition_of other.entries.items) (slice_get (known ++ new ∷ []) n)
  go (inl h) = subst (IsKnownBy (map transition_of other.entries.items)) (sym (within known (new ∷ []) n (omega (arith, h, long)))) (are n other h there)
  go (inr h) =
      let same : k ≡ n = omega (arith, h, below) in
      let one : automaton ≡ other = some_same automaton other (sym at ∙ ap (slice_get automata) same ∙ there) in
      let found : Some new ≡ slice_get (known ++ new ∷ []) n = sym (last known new) ∙ ap (slice_get (known ++ new ∷ [])) (long ∙ same) in
      subst (IsKnownBy (map transition_of other.entries.items)) found (subst (λ (a : Automaton). IsKnown (map transition_of a.entries.items) new) one here)

-- all
pub known_all : (automata : List Automaton) (known : List Known) (k : ℕ) → AreKnownTo k automata known → length automata ≤ k → AreKnown automata known
known_all automata known k are past n automaton at = let below = below_length automata n automaton at in are n automaton (omega (arith, below, past)) at
