-- One component among others, by its number.
use Rattle.std.proofs.Common.{◌≡◌, ℕ, ◌↔◌, Option, None, Some, List, length, ap, subst, ◌∙◌}
use Rattle.std.specs.Prelude.{IsErrOf, OnOk, Result, Ok, Err, slice_get, slice_index_or, slice_set}
use Rattle.std.proofs.lemmas.Option.{get_or_from_slice_get}
use Rattle.event_keys.specs.declared.key.Key.{Key}
use Rattle.event_keys.specs.declared.message.Signed.{Signed}
use Rattle.task_seed.specs.declared.setup.Setup.{Setup}
use Rattle.task_seed.specs.declared.turns.Turn.{Turn}
use Rattle.rollback.specs.declared.refused.ProcessRefused.{ProcessRefused}
use Rattle.rollback.specs.declared.refused.ProcessRefused.TheVariants.{NothingPending}
use Rattle.rollback.specs.ComponentView.{ComponentView}
use Rattle.rollback.specs.Stepped.{IsNextSent, IsUnsent, next_entry, stepped, taken_back, with_coming}

-- what an index reads is what is there
pub at_index : {X : Type 0} (xs : List X) (i n : ℕ) (d c : X) → n ≡ i → slice_get xs i ≡ Some c → slice_index_or xs n d ≡ c
at_index xs i n d c e at = ap (λ k. slice_index_or xs k d) e ∙ get_or_from_slice_get xs i c d at

module _ {T : Type 0} (turn_of : T → ℕ → ℕ → Option Turn) (xs : List (ComponentView (Setup T))) (i n : ℕ) (e : n ≡ i) (d : ComponentView (Setup T)) where
  abbrev x : ComponentView (Setup T)
  x = slice_index_or xs n d

  pub stepped_at : (flight new_flight : List Signed) (new : ComponentView (Setup T)) (result : Result Key ProcessRefused) → OnOk result (new ≡ stepped turn_of x) → OnOk result (IsNextSent turn_of x flight new_flight)
      → OnOk result ((c : ComponentView (Setup T)) → slice_get xs i ≡ Some c → (slice_set xs n new ≡ slice_set xs i (stepped turn_of c)) × IsNextSent turn_of c flight new_flight)
  stepped_at flight new_flight new (Ok key) record_is sent = λ c at.
      let same = at_index xs i n d c e at in
      ((λ v. slice_set xs (e v) ((record_is ∙ ap (stepped turn_of) same) v)), subst (λ y. IsNextSent turn_of y flight new_flight) same sent)
  stepped_at flight new_flight new (Err refused) record_is sent = tt

  pub nothing_at : (result : Result Key ProcessRefused) → (IsErrOf result NothingPending ↔ (next_entry turn_of x ≡ None))
      → (c : ComponentView (Setup T)) → slice_get xs i ≡ Some c → IsErrOf result NothingPending ↔ (next_entry turn_of c ≡ None)
  nothing_at result h c at = subst (λ y. IsErrOf result NothingPending ↔ (next_entry turn_of y ≡ None)) (at_index xs i n d c e at) h

  pub come_at : (signed : Signed) (flight new_flight : List Signed) (new : ComponentView (Setup T)) → new ≡ with_coming turn_of x signed → IsUnsent turn_of x (taken_back turn_of x signed) flight new_flight
      → (c : ComponentView (Setup T)) → slice_get xs i ≡ Some c → (slice_set xs n new ≡ slice_set xs i (with_coming turn_of c signed)) × IsUnsent turn_of c (taken_back turn_of c signed) flight new_flight
  come_at signed flight new_flight new record_is sent c at =
      let same = at_index xs i n d c e at in
      ((λ v. slice_set xs (e v) ((record_is ∙ ap (λ y. with_coming turn_of y signed) same) v)), subst (λ y. IsUnsent turn_of y (taken_back turn_of y signed) flight new_flight) same sent)

  pub count_at : (signed : Signed) (count : ℕ) → count ≡ length (taken_back turn_of x signed)
      → (c : ComponentView (Setup T)) → slice_get xs i ≡ Some c → count ≡ length (taken_back turn_of c signed)
  count_at signed count h c at = subst (λ y. count ≡ length (taken_back turn_of y signed)) (at_index xs i n d c e at) h
