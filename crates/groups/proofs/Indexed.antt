-- What an index reads is the component at a place.
use Rattle.std.proofs.Common.{◌≡◌, ℕ, Option, Some, List, [], ◌∷◌, length, refl, ap, sym, subst, ◌∙◌, arith}
use Rattle.std.specs.Prelude.{OnOk, Result, Ok, Err, slice_get, slice_index_or, slice_set}
use Rattle.std.proofs.lemmas.Option.{get_or_from_slice_get}
use Rattle.event_keys.specs.declared.key.Key.{Key}
use Rattle.event_keys.specs.declared.message.Sign.TheVariants.{Minus}
use Rattle.event_keys.specs.declared.message.Signed.{Signed}
use Rattle.antimessage.specs.Order.{IsInOrder}
use Rattle.virtual_time.specs.Entries.{Entry}
use Rattle.virtual_time.specs.Records.{unsent}
use Rattle.task_seed.specs.declared.setup.Setup.{Setup}
use Rattle.task_seed.specs.declared.turns.Turn.{Turn}
use Rattle.task_seed.specs.Setups.{system}
use Rattle.rollback.specs.declared.refused.ProcessRefused.{ProcessRefused}
use Rattle.rollback.specs.ComponentView.{ComponentView, machine_of}
use Rattle.rollback.specs.Laws.{SameFlightIsSame}
use Rattle.rollback.specs.Post.{IsPosted}
use Rattle.rollback.specs.Stepped.{IsNextSent, IsUnsent, stepped, taken_back, with_coming}
use Rattle.terms.specs.Named.{Named}
use Rattle.groups.specs.Open.{IsComeTo, IsSteppedAt}
use Rattle.groups.proofs.Depths.{nothing_posted}

module _ {T : Type 0} (turn_of : T → ℕ → ℕ → Option Turn) (xs : List (ComponentView (Setup T))) (place : ℕ) (d : ComponentView (Setup T)) where
  abbrev x : ComponentView (Setup T)
  x = slice_index_or xs place d

  at_index : (c : ComponentView (Setup T)) → slice_get xs place ≡ Some c → x ≡ c
  at_index c there = get_or_from_slice_get xs place c d there

  pub stepped_at : (sent new_sent : List Signed) (new : ComponentView (Setup T)) (result : Result Key ProcessRefused) → OnOk result (new ≡ stepped turn_of x) → OnOk result (IsNextSent turn_of x sent new_sent)
      → OnOk result (IsSteppedAt turn_of place xs sent (slice_set xs place new) new_sent)
  stepped_at sent new_sent new (Ok key) is posted = λ c there.
      let same = at_index c there in
      (ap (slice_set xs place) (is ∙ ap (stepped turn_of) same), subst (λ y. IsNextSent turn_of y sent new_sent) same posted)
  stepped_at sent new_sent new (Err refused) is posted = tt

  pub come_at : (signed : Signed) (sent new_sent : List Signed) (new : ComponentView (Setup T)) → new ≡ with_coming turn_of x signed → IsUnsent turn_of x (taken_back turn_of x signed) sent new_sent
      → IsComeTo turn_of place xs sent (slice_set xs place new) new_sent signed
  come_at signed sent new_sent new is posted c there =
      let same = at_index c there in
      (ap (slice_set xs place) (is ∙ ap (λ y. with_coming turn_of y signed) same), subst (λ y. IsUnsent turn_of y (taken_back turn_of y signed) sent new_sent) same posted)

  pub count_at : (signed : Signed) (count : ℕ) → count ≡ length (taken_back turn_of x signed) → (c : ComponentView (Setup T)) → slice_get xs place ≡ Some c → count ≡ length (taken_back turn_of c signed)
  count_at signed count is c there = subst (λ y. count ≡ length (taken_back turn_of y signed)) (at_index c there) is

  pub quiet_at : (signed : Signed) (sent new_sent : List Signed) (count : ℕ) → SameFlightIsSame → IsInOrder sent → IsInOrder new_sent → count ≡ length (taken_back turn_of x signed) → IsUnsent turn_of x (taken_back turn_of x signed) sent new_sent → count ≡ 0 → new_sent ≡ sent
  quiet_at signed sent new_sent count law before after many posted none =
      nothing_posted (system turn_of x.setup) x.number sent new_sent law before after (subst (λ es. IsPosted Minus (unsent (machine_of turn_of x.setup) x.number es) sent new_sent) (empty (taken_back turn_of x signed) (sym many ∙ none)) posted)
    where
      empty : (es : List (Entry Named)) → length es ≡ 0 → es ≡ []
      empty [] e = refl
      empty (e ∷ es) f = absurd (omega (arith, f))
