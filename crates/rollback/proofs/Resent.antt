-- What done turns sent, sent once more in the order in which they were done.
use Rattle.std.proofs.Common.{◌≡◌, ℕ, List, [], ◌∷◌, refl, ap, ◌∙◌}
use Rattle.std.specs.Prelude.{OnOk, Result, Ok, Err}
use mathlib.Core.List.{reverse_aux}
use Rattle.event_keys.specs.declared.message.Signed.{Signed}
use Rattle.event_keys.specs.declared.message.Sign.TheVariants.{Plus}
use Rattle.terms.specs.Named.{Named}
use Rattle.raw_events.specs.Around.{Around}
use Rattle.virtual_time.specs.Entries.{Entry, Item}
use Rattle.virtual_time.specs.Machine.{Machine}
use Rattle.virtual_time.specs.Records.{sent_all, unsent}
use Rattle.message_balance.specs.declared.done.Done.{Done}
use Rattle.message_balance.specs.Balance.{all_of}
use Rattle.message_balance.proofs.Counting.{all_before}
use Rattle.rollback.specs.ComponentInvariant.{entries_of}
use Rattle.rollback.specs.Flight.{in_flight}
use Rattle.rollback.specs.Post.{IsPosted}

module _ {S : Type 0} (m : Machine S Named) (i : ℕ) where
  turned_round : (es rest : List (Entry Named)) (j : ℕ) (xs : List (Item Named)) → unsent m i (reverse_aux es rest) j xs ≡ unsent m i rest j (sent_all m i es j xs)
  turned_round [] rest j xs = refl
  turned_round (e ∷ es) rest j xs = turned_round es (e ∷ rest) j xs

  map_onto : (ds rest : List Done) → entries_of (reverse_aux ds rest) ≡ reverse_aux (entries_of ds) (entries_of rest)
  map_onto [] rest = refl
  map_onto (d ∷ ds) rest = map_onto ds (d ∷ rest)

  pub all_resent : (done : Around Done) (old new : List Signed) → done.after ≡ [] → IsPosted Plus (unsent m i (entries_of (all_of done))) old new → IsPosted Plus (sent_all m i (entries_of done.before)) old new
  all_resent done old new ahead posted =
      record {
        there = λ j. posted.there j
            ∙ ap (λ ds. unsent m i (entries_of ds) j (in_flight Plus j old)) (all_before done ahead)
            ∙ ap (λ es. unsent m i es j (in_flight Plus j old)) (map_onto done.before [])
            ∙ turned_round (entries_of done.before) [] j (in_flight Plus j old);
        other = posted.other;
      }

  pub on_all_resent : {A E : Type 0} (done : Around Done) (old new : List Signed) (r : Result A E) → done.after ≡ [] → OnOk r (IsPosted Plus (unsent m i (entries_of (all_of done))) old new) → OnOk r (IsPosted Plus (sent_all m i (entries_of done.before)) old new)
  on_all_resent done old new (Ok a) ahead posted = all_resent done old new ahead posted
  on_all_resent done old new (Err e) ahead posted = tt
