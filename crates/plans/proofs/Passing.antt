-- Candidates for the receivers of an action, and that who takes an input has it under an entry of that kind.
use Rattle.std.specs.Prelude.{◌≡◌, ℕ, ◌+◌, ◌<◌, ◌≤◌, ◌==◌, ◌||◌, ◌&&◌, Bool as Truth, true, false, List, [], ◌∷◌, ◌++◌, filter, length, Option, None, Some, Result, Ok, Err, IfOk, refl, if◌then◌else◌, nat_lt}
use Rattle.std.specs.List.Sorted.{IsStrictlyIncreasing}
use Rattle.std.proofs.Common.{arith, ap, sym, ◌∙◌}
use Rattle.std.proofs.lemmas.Bool.{ltb-true, ltb-false, true≢false}
use Rattle.terms.specs.Named.{Named}
use Rattle.io_automata.specs.declared.automaton.Kind.TheVariants.{Input, Output, Internal}
use Rattle.io_automata.specs.Automata.{Transition, Instance, component_at}
use Rattle.io_automata.specs.Compatible.{IsCompatible}
use Rattle.io_automata.specs.Found.{kind_found, kind-entry_in, disjoint_at}
use Rattle.io_automata.specs.Receivers.{Rising, IsIn, AreCandidates, receivers_rise, receivers_all, none_past}
use Rattle.io_automata.specs.Signatures.{any_as, inputs, kind_in, takes_input, receives, receivers_of}
use Rattle.io_automata.specs.Steps.{entry_in}
use Rattle.plans.proofs.Candidates.{in_filter, rising_from, same_from}

least : (a n : ℕ) (xs : List ℕ) → Rising a (xs ++ n ∷ []) → a ≤ n
least a n [] rise = rise.0
least a n (x ∷ xs) rise = let low = rise.0 in let most = least (x + 1) n xs rise.1 in omega (arith, low, most)

below_last : (a n j : ℕ) (xs : List ℕ) → Rising a (xs ++ n ∷ []) → IsIn j xs ≡ true → j < n
below_last a n j [] rise h = absurd (true≢false (sym h))
below_last a n j (x ∷ xs) rise h = go (below_last (x + 1) n j xs rise.1) (j == x) refl h where
  go : (IsIn j xs ≡ true → j < n) → (b : Truth) → (j == x) ≡ b → (b || IsIn j xs) ≡ true → j < n
  go rest true here g = let same : j ≡ x = same_from j x here in let most = least (x + 1) n xs rise.1 in omega (arith, same, most)
  go rest false here g = rest g

-- a list that rises, up to the number of components, and has all receivers
pub lent_are : (composition : List Instance) (action : Named) (sender : ℕ) (found : List ℕ) → IsStrictlyIncreasing found → IsStrictlyIncreasing (found ++ length composition ∷ []) → filter (receives composition sender action) found ≡ receivers_of composition action sender → AreCandidates composition action sender found
lent_are composition action sender found rise above all = record {
  rising = rising_from 0 found rise (λ y ys is. omega arith);
  within = λ j h. below_last 0 (length composition) j found (rising_from 0 (found ++ length composition ∷ []) above (λ y ys is. omega arith)) h;
  all = there;
} where
  right : (a b : Truth) → (a && b) ≡ true → b ≡ true
  right true b h = h
  right false b h = cc

  there : (j : ℕ) → receives composition sender action j ≡ true → IsIn j found ≡ true
  there j h = right (receives composition sender action j) (IsIn j found)
      (sym (in_filter (receives composition sender action) j found) ∙ ap (IsIn j) all ∙ receivers_all composition action sender j ∙ h)

-- the receivers are candidates
pub receivers_are : (composition : List Instance) (action : Named) (sender : ℕ) (found : List ℕ) → found ≡ receivers_of composition action sender → AreCandidates composition action sender found
receivers_are composition action sender found is = record {
  rising = rw is (receivers_rise composition action sender);
  within = within;
  all = λ j h. ap (IsIn j) is ∙ receivers_all composition action sender j ∙ h;
} where
  within : (j : ℕ) → IsIn j found ≡ true → j < length composition
  within j h = go (nat_lt j (length composition)) refl where
    takes : receives composition sender action j ≡ true
    takes = sym (receivers_all composition action sender j) ∙ sym (ap (IsIn j) is) ∙ h

    go : (b : Truth) → nat_lt j (length composition) ≡ b → j < length composition
    go true e = ltb-true j (length composition) e
    go false e = absurd (true≢false (sym takes ∙ none_past composition action sender j (ltb-false j (length composition) e)))

takes_is_input : (component : Instance) (action : Named) → takes_input (kind_in component action) ≡ any_as Input component action
takes_is_input component action = go (any_as Input component action) (any_as Output component action) (any_as Internal component action) where
  go : (a b c : Truth) → takes_input (if a then Some Input else if b then Some Output else if c then Some Internal else None) ≡ a
  go true b c = refl
  go false true c = refl
  go false false true = refl
  go false false false = refl

-- whether a component takes an action as an input, by the entry that stands for it
pub takes_by_entry : (composition : List Instance) → IsCompatible composition → (j : ℕ) (action : Named) (found : Option Transition) → found ≡ entry_in (component_at composition j) action → takes_input (kind_found found) ≡ inputs composition j action
takes_by_entry composition compatible j action found is =
    ap (λ f. takes_input (kind_found f)) is
    ∙ ap takes_input (kind-entry_in (component_at composition j) action (disjoint_at composition compatible j action))
    ∙ takes_is_input (component_at composition j) action

-- what follows of a value, if there is one
pub if_ok : {X E : Type 0} (result : Result X E) (P Q : X → Type 0) → IfOk result P → ((x : X) → P x → Q x) → IfOk result Q
if_ok (Ok x) P Q is follows = follows x is
if_ok (Err e) P Q is follows = tt
