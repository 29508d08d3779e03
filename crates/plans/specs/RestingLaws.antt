-- What may be noted of a task, and what a note tells.
use Rattle.std.proofs.Common.{◌≡◌, ℕ, suc, ◌<◌, ◌%◌, ◌⊎◌, inl, inr, true, false, None, Some, List, [], ◌∷◌, length, refl, ap, sym, subst, ◌∙◌, arith}
use Rattle.std.specs.Prelude.{slice_get, slice_index_or}
use Rattle.std.proofs.lemmas.Nat.{mod_below}
use Rattle.std.proofs.lemmas.Option.{slice_get-get_or}
use Rattle.terms.specs.Datum.{Datum}
use Rattle.plans.specs.declared.resting.Resting.{Resting}
use Rattle.io_automata.specs.Automata.{Instance}
use Rattle.io_automata.specs.Outcomes.{enabled_of, outcome_of}
use Rattle.plans.specs.Resting.{IsResting, rests}

-- what a turn finds in a list
none_found : {X : Type 0} (xs : List X) (choice : ℕ) → None ≡ slice_get xs (choice % length xs) → xs ≡ []
none_found [] choice none = refl
none_found (x ∷ xs) choice none =
    let below : choice % suc (length xs) < suc (length xs) = mod_below choice (suc (length xs)) (omega arith) in
    let there : slice_get (x ∷ xs) (choice % suc (length xs)) ≡ Some (slice_index_or (x ∷ xs) (choice % suc (length xs)) x) = slice_get-get_or (x ∷ xs) (choice % suc (length xs)) x below in
    let both : None ≡ Some (slice_index_or (x ∷ xs) (choice % suc (length xs)) x) = none ∙ there in
    cc

module _ (c : List Instance) (i : ℕ) (state : List Datum) where
  -- a turn that found nothing had nothing enabled
  pub none_enabled : (task choice : ℕ) → None ≡ outcome_of c i task choice state → enabled_of c i task state ≡ []
  none_enabled task choice none = none_found (enabled_of c i task state) choice none

  -- a turn of a task that rests finds nothing
  pub rests_idle : (resting : Resting) → IsResting c i state resting → (task choice : ℕ) → rests resting task ≡ true → outcome_of c i task choice state ≡ None
  rests_idle resting are task choice is = ap (λ (xs : List _). slice_get xs (choice % length xs)) (are task is)

  -- a task of which a turn found nothing may be noted
  pub noted_resting : (old new : Resting) → IsResting c i state old → (task choice : ℕ) → None ≡ outcome_of c i task choice state → ((t : ℕ) → rests new t ≡ true → (rests old t ≡ true) ⊎ (t ≡ task)) → IsResting c i state new
  noted_resting old new are task choice none more t is = go (more t is) where
    go : (rests old t ≡ true) ⊎ (t ≡ task) → enabled_of c i t state ≡ []
    go (inl was) = are t was
    go (inr it) = subst (λ u. enabled_of c i u state ≡ []) (sym it) (none_enabled task choice none)

  -- where no task is noted, no note is wrong
  pub woken_resting : (resting : Resting) → ((t : ℕ) → rests resting t ≡ false) → IsResting c i state resting
  woken_resting resting none t is = let both : true ≡ false = sym is ∙ none t in cc
