-- What is found of a task is known of it from then on.
use Rattle.std.proofs.Common.{◌≡◌, ℕ, zero, suc, ◌⊎◌, inl, inr, true, None, Some, List, [], ◌∷◌, ◌++◌, ap, sym, subst, ◌∙◌}
use Rattle.std.specs.Prelude.{slice_get}
use Rattle.std.specs.List.{flat_map}
use Rattle.terms.specs.Datum.{Datum}
use Rattle.io_automata.specs.Automata.{Instance, component_at}
use Rattle.io_automata.specs.Outcomes.{enabled_of, outcome_of}
use Rattle.outcomes.specs.Tasks.{AreFound, AreFoundAmong, enabled_of_task, made_by, made_of}
use Rattle.outcomes.specs.declared.spans.Found.{Found}
use Rattle.outcomes.specs.declared.task.Task.{Task}
use Rattle.plans.proofs.Tasks.{enabled_same}
use Rattle.plans.specs.Known.{IsTaskOf}
use Rattle.plans.specs.Memos.{IsAmong, IsKept, IsMemo, made_in}
use Rattle.plans.specs.Resting.{IsResting, rests}
use Rattle.plans.specs.RestingLaws.{noted_resting}
use Rattle.plans.specs.declared.memo.Kept.{Kept}
use Rattle.plans.specs.declared.memo.Memo.{Memo}

-- what stands in a list to which one item was put behind
pub put_behind : {X : Type 0} (xs : List X) (x y : X) (k : ℕ) → slice_get (xs ++ x ∷ []) k ≡ Some y → (slice_get xs k ≡ Some y) ⊎ (y ≡ x)
put_behind [] x y zero e = let same : y ≡ x = cc in inr same
put_behind [] x y (suc k) e = cc
put_behind (z ∷ xs) x y zero e = inl e
put_behind (z ∷ xs) x y (suc k) e = put_behind xs x y k e

module _ (c : List Instance) (i : ℕ) (state : List Datum) where
  -- a memo with other notes, which are true
  pub noted_memo : (old new : Memo) → IsMemo c i state old → (task choice : ℕ) → None ≡ outcome_of c i task choice state → new.kept.items ≡ old.kept.items → ((t : ℕ) → rests new.resting t ≡ true → (rests old.resting t ≡ true) ⊎ (t ≡ task)) → IsMemo c i state new
  noted_memo old new is task choice none kept more =
      record {
        resting = noted_resting c i state old.resting new.resting is.resting task choice none more;
        kept = λ k one at. is.kept k one (sym (ap (λ xs. slice_get xs k) kept) ∙ at);
      }

  module _ (number : ℕ) (task : Task) (its : IsTaskOf c i number task) where
    made_same : (founds : List Found) → flat_map (made_of task) founds ≡ flat_map (made_in c i) founds
    made_same founds = λ j. flat_map (λ (found : Found). made_by (sym its.formals j) (slice_get (sym its.entries j) found.place) found.from found.count) founds

    -- what is known of the task was found among its entries
    pub known_found : (memo : Memo) → IsMemo c i state memo → (founds : List Found) → IsAmong memo.kept.items number founds → AreFound task founds
    known_found memo is founds among =
        let kept = is.kept among.at among.kept among.there in
        subst (λ es. AreFoundAmong es founds) its.entries (subst (AreFoundAmong (component_at c i).entries) (sym among.found) kept.found)

    -- and is what is enabled of it
    pub known_whole : (memo : Memo) → IsMemo c i state memo → (founds : List Found) → IsAmong memo.kept.items number founds → flat_map (made_of task) founds ≡ enabled_of c i number state
    known_whole memo is founds among =
        let kept = is.kept among.at among.kept among.there in
        made_same founds ∙ ap (flat_map (made_in c i)) among.found ∙ kept.whole ∙ ap (λ n. enabled_of c i n state) among.its

    -- what was found of the task is known of it from then on
    pub kept_memo : (old new : Memo) → IsMemo c i state old → (founds : List Found) → AreFound task founds → flat_map (made_of task) founds ≡ enabled_of_task task state → new.resting ≡ old.resting
        → (new.kept.items ≡ old.kept.items) ⊎ ((one : Kept) × (one.task ≡ number) × (one.founds.items ≡ founds) × (new.kept.items ≡ old.kept.items ++ one ∷ [])) → IsMemo c i state new
    kept_memo old new is founds found whole resting kept =
        record { resting = subst (IsResting c i state) (sym resting) is.resting; kept = λ k x at. each k x at kept } where
          fresh : (one : Kept) → one.task ≡ number → one.founds.items ≡ founds → IsKept c i state one
          fresh one its_task its_founds =
              record {
                found = subst (AreFoundAmong (component_at c i).entries) (sym its_founds) (subst (λ es. AreFoundAmong es founds) (sym its.entries) found);
                whole = ap (flat_map (made_in c i)) its_founds ∙ sym (made_same founds) ∙ whole ∙ enabled_same c i number task state its ∙ sym (ap (λ n. enabled_of c i n state) its_task);
              }

          each : (k : ℕ) (x : Kept) → slice_get new.kept.items k ≡ Some x → (new.kept.items ≡ old.kept.items) ⊎ ((one : Kept) × (one.task ≡ number) × (one.founds.items ≡ founds) × (new.kept.items ≡ old.kept.items ++ one ∷ [])) → IsKept c i state x
          each k x at (inl same) = is.kept k x (sym (ap (λ xs. slice_get xs k) same) ∙ at)
          each k x at (inr more) = go (put_behind old.kept.items more.0 x k (sym (ap (λ xs. slice_get xs k) more.3) ∙ at)) where
            go : (slice_get old.kept.items k ≡ Some x) ⊎ (x ≡ more.0) → IsKept c i state x
            go (inl before) = is.kept k x before
            go (inr same) = subst (IsKept c i state) (sym same) (fresh more.0 more.1 more.2)
