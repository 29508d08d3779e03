-- Who takes the action of a turn: the turn's component and each receiver.
use Rattle.std.proofs.Common.{◌≡◌, ℕ, ◌+◌, ◌<◌, ◌⊎◌, inl, inr, Bool, true, false, Option, None, Some, List, [], ◌∷◌, length, refl, ap, sym, ◌∙◌, arith}
use Rattle.std.specs.Prelude.{cond, not, ◌&&◌, ◌||◌, ◌==◌, slice_get, option_map, Result, Ok, Err, OnOk}
use Rattle.std.proofs.lemmas.Bool.{cases_eq, ne_eqb}
use Rattle.terms.specs.Datum.{Datum}
use Rattle.terms.specs.Named.{Named}
use Rattle.undo_records.specs.States.{States, without_first}
use Rattle.io_automata.specs.Automata.{Instance}
use Rattle.io_automata.specs.Receivers.{AreCandidates, IsIn, Rising}
use Rattle.io_automata.specs.Signatures.{inputs, receives}
use Rattle.io_automata.specs.Steps.{applied}
use Rattle.task_seed.specs.Turning.{System}
use Rattle.task_seed.specs.Machines.{machine}
use Rattle.reference.specs.Taking.{Distinct, holding, joining, marking, plain, released}

not_before : (j a : ℕ) (js : List ℕ) → j < a → Rising a js → IsIn j js ≡ false
not_before j a [] h r = refl
not_before j a (k ∷ js) h r =
    let low = r.0 in
    ap (λ b. b || IsIn j js) (ne_eqb j k (λ e. let same : j ≡ k = e in absurd (omega (arith, h, low, same)))) ∙ not_before j (k + 1) js (omega (arith, h, low)) r.1

-- no number of a list that rises stands twice
pub distinct_rising : (a : ℕ) (js : List ℕ) → Rising a js → Distinct js
distinct_rising a [] rise = tt
distinct_rising a (k ∷ js) rise = (not_before k (k + 1) js (omega arith) rise.1, distinct_rising (k + 1) js rise.1)

module _ (s : System) (composition : List Instance) (of_system : composition ≡ s.composition) (i : ℕ) (a : Named) (among : List ℕ) (are : AreCandidates composition a i among) where
  pub among_within : (states : ℕ) → states ≡ length s.composition → (j : ℕ) → IsIn j among ≡ true → j < states
  among_within states many j h = let within = are.within j h in let same = ap length of_system in omega (arith, within, same, many)

  -- once all marks are forgotten, each has taken the action that is to
  pub joined : (old mid new : List States) → ((j : ℕ) (state : States) → slice_get old j ≡ Some state → state.below ≡ []) → ((j : ℕ) → slice_get mid j ≡ option_map (holding composition i a among j) (slice_get old j))
      → ((j : ℕ) → slice_get new j ≡ option_map (released i among j) (slice_get mid j)) → (j : ℕ) → slice_get new j ≡ option_map (joining (machine s) i (Some a) j) (slice_get old j)
  joined old mid new bare hold release j = release j ∙ ap (option_map (released i among j)) (hold j) ∙ go (slice_get old j) refl where
    one : (state : States) → state.below ≡ [] → released i among j (holding composition i a among j state) ≡ joining (machine s) i (Some a) j state
    one state below = ap (λ x. released i among j (holding composition i a among j x)) whole ∙ by_both (j == i) refl (IsIn j among) refl ∙ ap by of_system where
      now : List Datum
      now = state.current

      next : List Datum
      next = applied composition j a now

      by : List Instance → States
      by c = plain (cond (j == i) (applied c j a now) (cond (receives c i a j) (applied c j a now) now))

      whole : state ≡ plain now
      whole = ap (λ b. record { current = now; below = b }) below

      deaf : (r : Bool) → receives composition i a j ≡ r → IsIn j among ≡ false → r ≡ false
      deaf false is out = refl
      deaf true is out = let both : ◌≡◌ {A = Bool} false true = sym out ∙ are.all j is in cc

      R : States
      R = record { current = cond (inputs composition j a) next now; below = now ∷ [] }

      held : Bool → Bool → States
      held own there = cond own (marking composition i a (plain now)) (cond there (cond own (plain now) R) (plain now))

      let_go : Bool → Bool → States
      let_go own there = cond own (without_first 1 (held own there)) (cond there (cond own (held own there) (without_first 1 (held own there))) (held own there))

      by_both : (own : Bool) → (j == i) ≡ own → (there : Bool) → IsIn j among ≡ there → let_go own there ≡ plain (cond own next (cond (receives composition i a j) next now))
      by_both true own there is = ap (λ k. plain (applied composition k a now)) (sym (by_eq (cases_eq j i))) where
        by_eq : (j ≡ i) ⊎ (j ≡ i → ⊥) → j ≡ i
        by_eq (inl same) = same
        by_eq (inr other) = let both : ◌≡◌ {A = Bool} true false = sym own ∙ ne_eqb j i other in cc
      by_both false own true is = ap (λ b. plain (cond b next now)) (sym (ap (λ b. not b && inputs composition j a) own))
      by_both false own false is = ap (λ b. plain (cond b next now)) (sym (deaf (receives composition i a j) refl is))

    go : (o : Option States) → slice_get old j ≡ o → option_map (released i among j) (option_map (holding composition i a among j) o) ≡ option_map (joining (machine s) i (Some a) j) o
    go None e = refl
    go (Some state) e = ap (λ x. Some x) (one state (bare j state e))

pub then_ok : {T E : Type 0} (P Q : Type 0) (r : Result T E) → OnOk r P → (P → Q) → OnOk r Q
then_ok P Q (Ok x) h f = f h
then_ok P Q (Err e) h f = tt
