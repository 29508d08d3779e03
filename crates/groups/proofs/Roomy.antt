-- How many own turns are done when one component has changed, and why a group stopped.
use Rattle.std.proofs.Common.{◌≡◌, ℕ, ◌≤◌, ◌<◌, ◌⊎◌, inl, inr, Bool, true, false, Option, None, Some, List, refl, ap, sym, subst, ◌∙◌, arith}
use Rattle.std.specs.Prelude.{IfSome, slice_get, slice_set}
use Rattle.std.proofs.lemmas.Bool.{cases_eq, ltb-true}
use Rattle.terms.specs.Datum.{Datum}
use Rattle.terms.specs.Named.{Named}
use Rattle.event_keys.specs.declared.message.Sign.{Sign}
use Rattle.event_keys.specs.declared.message.Sign.TheVariants.{Plus, Minus}
use Rattle.event_keys.specs.declared.message.Signed.{Signed}
use Rattle.virtual_time.specs.Machine.{Lawful, Machine}
use Rattle.virtual_time.specs.Entries.{Entry, Input, Item, Own}
use Rattle.virtual_time.specs.Exchange.Windows.{own_turns}
use Rattle.virtual_time.specs.Records.{Record}
use Rattle.virtual_time.proofs.Exchange.Windowed.{antimessage_turns, message_turns}
use Rattle.task_seed.specs.declared.setup.Setup.{Setup}
use Rattle.task_seed.specs.declared.turns.Turn.{Turn}
use Rattle.rollback.specs.ComponentView.{ComponentView, comes, machine_of, processed}
use Rattle.rollback.specs.Flight.{item_of}
use Rattle.rollback.specs.Stepped.{next_entry, stepped, with_coming}
use Rattle.groups.specs.declared.running.Stop.{Stop}
use Rattle.groups.specs.declared.running.Stop.TheVariants.{Budget, End, NoMemory, NoRoom}
use Rattle.groups.specs.declared.window.Window.{Window}
use Rattle.groups.specs.GroupView.{GroupView}
use Rattle.groups.specs.Moves.{HasStopped}
use Rattle.groups.specs.Windows.{HaveDone, IsFirst, IsHalted, KeepRoom, KeepsWindow, MayGoOn, lets_through}
use Rattle.groups.proofs.Least.{least_none, least_there}
use Rattle.groups.proofs.Placed.{one_some, set_other, set_there}

module _ {P : Type 0} where
  -- one with no more of them comes in place of another
  pub done_put : (most : ℕ) (cs : List (ComponentView P)) (place : ℕ) (c new : ComponentView P) → slice_get cs place ≡ Some c → own_turns new.history.done ≤ most → HaveDone most cs → HaveDone most (slice_set cs place new)
  done_put most cs place c new at few all q d there = go (cases_eq q place)
    where
      go : (q ≡ place) ⊎ (q ≡ place → ⊥) → own_turns d.history.done ≤ most
      go (inl e) =
          let same : new ≡ d = one_some new d (sym (set_there cs place c new at) ∙ ap (slice_get (slice_set cs place new)) (sym e) ∙ there) in
          subst (λ (x : ComponentView P). own_turns x.history.done ≤ most) same few
      go (inr ne) = all q d (sym (set_other cs place new q ne) ∙ there)

  pub window_same : (g : GroupView P) → KeepsWindow g g
  window_same g = record { same = refl; keeps = λ h. h }

  pub window_both : (a b c : GroupView P) → KeepsWindow a b → KeepsWindow b c → KeepsWindow a c
  window_both a b c one two = record { same = two.same ∙ one.same; keeps = λ h. two.keeps (one.keeps h) }

  -- a group whose components keep to a window, which is its own
  pub window_kept : (old new : GroupView P) → new.window ≡ old.window → KeepRoom old.window old.components new.components → KeepsWindow old new
  window_kept old new same keep = record { same = same; keeps = λ h. go new.window old.window same keep h }
    where
      go : (w v : Option Window) → w ≡ v → IfSome v (λ x. HaveDone x.turns old.components → HaveDone x.turns new.components)
          → IfSome v (λ x. HaveDone x.turns old.components) → IfSome w (λ x. HaveDone x.turns new.components)
      go None v e k h = tt
      go (Some x) None e k h = cc
      go (Some x) (Some y) e k h = subst (λ o. IfSome o (λ (z : Window). HaveDone z.turns new.components)) (sym e) (k h)

  -- where whatever the bound is, it is kept
  pub room_kept : (window : Option Window) (old new : List (ComponentView P)) → ((most : ℕ) → HaveDone most old → HaveDone most new) → KeepRoom window old new
  room_kept None old new keep = tt
  room_kept (Some w) old new keep = keep w.turns

  pub room_then : (window : Option Window) (old mid new : List (ComponentView P)) → KeepRoom window old mid → ((most : ℕ) → HaveDone most mid → HaveDone most new) → KeepRoom window old new
  room_then None old mid new first later = tt
  room_then (Some w) old mid new first later = λ h. later w.turns (first h)

-- nothing that comes adds an own turn
come_turns : (m : Machine (List Datum) Named) → Lawful m → (sign : Sign) (x : Item Named) (r : Record (List Datum) Named) → own_turns (comes m sign x r).done ≤ own_turns r.done
come_turns m law Plus x r = message_turns m law x r
come_turns m law Minus x r = antimessage_turns m law x r

-- an entry for which there is room
next_turns : (w : Window) (next : Option (Entry Named)) (r : Record (List Datum) Named) → lets_through (Some w) r.done next ≡ true → own_turns r.done ≤ w.turns → own_turns (processed next r).done ≤ w.turns
next_turns w None r room few = few
next_turns w (Some (Own k o)) r room few = let less = ltb-true (own_turns r.done) w.turns room in omega (arith, less)
next_turns w (Some (Input x)) r room few = few

module _ {T : Type 0} (turn_of : T → ℕ → ℕ → Option Turn) where
  pub come_kept : (cs : List (ComponentView (Setup T))) (place : ℕ) (c : ComponentView (Setup T)) (x : Signed) → Lawful (machine_of turn_of c.setup) → slice_get cs place ≡ Some c → (most : ℕ) → HaveDone most cs → HaveDone most (slice_set cs place (with_coming turn_of c x))
  come_kept cs place c x law at most all =
      let less = come_turns (machine_of turn_of c.setup) law x.sign (item_of x) c.history in
      let few = all place c at in
      done_put most cs place c (with_coming turn_of c x) at (omega (arith, less, few)) all

  pub next_kept : (window : Option Window) (cs new : List (ComponentView (Setup T))) (place : ℕ) (c : ComponentView (Setup T)) → slice_get cs place ≡ Some c → lets_through window c.history.done (next_entry turn_of c) ≡ true → new ≡ slice_set cs place (stepped turn_of c)
      → KeepRoom window cs new
  next_kept None cs new place c at room becomes = tt
  next_kept (Some w) cs new place c at room becomes = λ all.
      subst (HaveDone w.turns) (sym becomes)
      (done_put w.turns cs place c (stepped turn_of c) at (next_turns w (next_entry turn_of c) c.history room (all place c at)) all)

  -- whether the window has room for what the first does
  pub first_goes_on : (window : Option Window) (room : Bool) (cs : List (ComponentView (Setup T))) (place : ℕ) (f : IsFirst turn_of cs place) → room ≡ lets_through window f.c.history.done (next_entry turn_of f.c) → MayGoOn turn_of window room cs
  first_goes_on window true cs place f is = inr (record { place = place; first = f; answer = sym is })
  first_goes_on window false cs place f is = record { place = place; first = f; answer = sym is }

  -- why it stopped
  pub stopped : (budget count : ℕ) (stop : Stop) (g : GroupView (Setup T)) → count < budget → IsHalted turn_of g.window stop g.components → HasStopped turn_of budget count stop g
  stopped budget count Budget g less h = absurd h
  stopped budget count End g less h = least_none turn_of g.setup g.components h
  stopped budget count NoMemory g less h = (less, λ e. least_there turn_of g.setup g.components h.place h.first e, h)
  stopped budget count NoRoom g less h = (less, h)
