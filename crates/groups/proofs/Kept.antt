-- What the members of a group keep when one of them has changed.
use Rattle.std.proofs.Common.{◌≡◌, ℕ, ◌↔◌, true, Option, None, Some, List, refl, ap, sym, subst, ◌∙◌, arith}
use Rattle.std.specs.Prelude.{IfErr, IfOk, IsErrOf, IsSomeAnd, OnErr, OnOk, Result, Ok, Err, slice_get, slice_set}
use Rattle.std.proofs.lemmas.List.{length-set}
use Rattle.event_keys.specs.declared.key.Bound.{Bound}
use Rattle.event_keys.specs.declared.key.Key.{Key}
use Rattle.event_keys.specs.declared.message.Signed.{Signed}
use Rattle.event_keys.specs.Ranks.{rank}
use Rattle.terms.specs.Named.{Named}
use Rattle.virtual_time.specs.Entries.{Entry, entry_key}
use Rattle.task_seed.specs.declared.setup.Setup.{Setup}
use Rattle.task_seed.specs.declared.turns.Turn.{Turn}
use Rattle.rollback.specs.ComponentView.{ComponentView, machine_of, next_key}
use Rattle.rollback.specs.Stepped.{next_entry, stepped, with_coming}
use Rattle.rollback.specs.declared.refused.ProcessRefused.{ProcessRefused}
use Rattle.rollback.specs.declared.refused.ProcessRefused.TheVariants.{NothingPending}
use Rattle.groups.specs.declared.running.Stop.{Stop}
use Rattle.groups.specs.declared.running.Stop.TheVariants.{Budget, End, NoMemory, NoRoom}
use Rattle.groups.specs.declared.seats.Seat.{Seat}
use Rattle.groups.specs.declared.window.Window.{Window}
use Rattle.groups.specs.Crew.{AreSeated, AreSound, AreValidMembers, MembersView, place_in}
use Rattle.groups.specs.GroupView.{frame_of, least_next}
use Rattle.groups.specs.Open.{HasCome, IsDelivered, IsFirstDone, IsProcessed}
use Rattle.groups.specs.Windows.{IsHalted, lets_through, refusal_of}
use Rattle.groups.proofs.Least.{least_first, least_none, least_there}
use Rattle.groups.proofs.Placed.{frames_put, own_same, places_same}

-- an entry that there is
some_entry : {A : Type 0} (P : A → Type 0) (o : Option A) → IsSomeAnd o P → (e : A) × (o ≡ Some e) × P e
some_entry P None h = absurd h
some_entry P (Some e) h = (e, refl, h)

-- what a caller without a window is told
pub told_done : {Q : Type 0} (key : Key) → IsErrOf {T = Key} {E = Stop} (Ok key) End ↔ Q → IsErrOf {T = Key} {E = ProcessRefused} (Ok key) NothingPending ↔ Q
told_done key h = (λ e. cc, λ q. let e = h.1 q in cc)

pub told_refused : {Q : Type 0} (stop : Stop) (refused : ProcessRefused) → refused ≡ refusal_of stop → IsErrOf {T = Key} {E = Stop} (Err stop) End ↔ Q → IsErrOf {T = Key} {E = ProcessRefused} (Err refused) NothingPending ↔ Q
told_refused Budget refused is h = (λ e. cc, λ q. let f = h.1 q in cc)
told_refused End refused is h = (λ e. h.0 refl, λ q. ap (λ x. Err x) is)
told_refused NoMemory refused is h = (λ e. cc, λ q. let f = h.1 q in cc)
told_refused NoRoom refused is h = (λ e. cc, λ q. let f = h.1 q in cc)

module _ {T : Type 0} (turn_of : T → ℕ → ℕ → Option Turn) (setup : Setup T) (base : Bound) (cs : List (ComponentView (Setup T))) (places : List ℕ) (seats : List Seat) (is : AreValidMembers turn_of setup base cs places seats) where
  abbrev old : MembersView (Setup T)
  old = record { setup = setup; base = base; components = cs }

  abbrev now : List (ComponentView (Setup T)) → MembersView (Setup T)
  now xs = record { setup = setup; base = base; components = xs }

  -- so they are sound
  pub sound : AreSound turn_of old
  sound =
      record {
        place = place_in places;
        apart = λ q d there. let e = is.placed.placed q d there in omega (arith, e);
        own = is.own;
        sorted = λ q d there. (is.seated.each q d tt there).2;
      }

  with_one : (q : ℕ) (c new : ComponentView (Setup T)) (xs : List (ComponentView (Setup T))) (new_seats : List Seat) → slice_get cs q ≡ Some c → frame_of new ≡ frame_of c → xs ≡ slice_set cs q new → AreSeated turn_of xs new_seats → AreValidMembers turn_of setup base xs places new_seats
  with_one q c new xs new_seats there same becomes seated =
      subst (λ ys. AreValidMembers turn_of setup base ys places new_seats) (sym becomes)
      (record {
        own = own_same setup base cs (slice_set cs q new) (frames_put cs q c new there same) is.own;
        few = let few = is.few in let long = length-set cs q new in omega (arith, few, long);
        placed = places_same cs places q c new there (ap (λ f. f.1) same) is.placed;
        seated = subst (λ ys. AreSeated turn_of ys new_seats) becomes seated;
      })

  -- the first did its next entry
  pub first_valid : (result : Result Key Stop) (window : Option Window) (sent : List Signed) (xs : List (ComponentView (Setup T))) (new_sent : List Signed) (new_seats : List Seat) → IfOk result (λ key. IsFirstDone turn_of window key cs sent xs new_sent) → OnErr result ((xs ≡ cs) × (new_sent ≡ sent))
      → AreSeated turn_of xs new_seats → AreValidMembers turn_of setup base xs places new_seats
  first_valid (Ok key) window sent xs new_sent new_seats d kept seated = with_one d.place d.first.c (stepped turn_of d.first.c) xs new_seats d.first.there refl d.becomes seated
  first_valid (Err e) window sent xs new_sent new_seats d kept seated = subst (λ ys. AreValidMembers turn_of setup base ys places new_seats) (sym kept.0) (record { own = is.own; few = is.few; placed = is.placed; seated = subst (λ ys. AreSeated turn_of ys new_seats) kept.0 seated })

  pub first_done : (result : Result Key Stop) (window : Option Window) (sent : List Signed) (xs : List (ComponentView (Setup T))) (new_sent : List Signed) → IfOk result (λ key. IsFirstDone turn_of window key cs sent xs new_sent) → OnOk result (IsProcessed turn_of window old (now xs) sent new_sent)
  first_done (Ok key) window sent xs new_sent d =
      let c = d.first.c in
      let some = some_entry (λ (e : Entry Named). entry_key e ≡ rank key) (next_entry turn_of c) d.has in
      record {
        place = d.place;
        c = c;
        there = d.first.there;
        entry = some.0;
        next = some.1;
        least = sym (least_first turn_of setup cs d.place d.first ∙ ap (next_key (machine_of turn_of c.setup)) some.1);
        room = subst (λ o. lets_through window c.history.done o ≡ true) some.1 d.room;
        becomes = ap now d.becomes;
        posts = d.posts;
      }
  first_done (Err e) window sent xs new_sent d = tt

  pub first_key : (result : Result Key Stop) (window : Option Window) (sent : List Signed) (xs : List (ComponentView (Setup T))) (new_sent : List Signed) → IfOk result (λ key. IsFirstDone turn_of window key cs sent xs new_sent) → IfOk result (λ key. rank key ≡ least_next turn_of setup cs)
  first_key (Ok key) window sent xs new_sent d =
      let c = d.first.c in
      let some = some_entry (λ (e : Entry Named). entry_key e ≡ rank key) (next_entry turn_of c) d.has in
      sym (least_first turn_of setup cs d.place d.first ∙ ap (next_key (machine_of turn_of c.setup)) some.1 ∙ some.2)
  first_key (Err e) window sent xs new_sent d = tt

  pub first_none : (result : Result Key Stop) (window : Option Window) (sent : List Signed) (xs : List (ComponentView (Setup T))) (new_sent : List Signed) → IfOk result (λ key. IsFirstDone turn_of window key cs sent xs new_sent) → IfErr result (λ stop. IsHalted turn_of window stop cs)
      → IsErrOf result End ↔ (least_next turn_of setup cs ≡ (machine_of turn_of setup).top)
  first_none (Ok key) window sent xs new_sent d h = (λ e. cc, λ e. absurd (least_there turn_of setup cs d.place d.first e))
  first_none (Err Budget) window sent xs new_sent d h = absurd h
  first_none (Err End) window sent xs new_sent d h = (λ e. least_none turn_of setup cs h, λ e. refl)
  first_none (Err NoMemory) window sent xs new_sent d h = (λ e. cc, λ e. absurd (least_there turn_of setup cs h.place h.first e))
  first_none (Err NoRoom) window sent xs new_sent d h = (λ e. cc, λ e. absurd (least_there turn_of setup cs h.place h.first e))

  -- one came to its receiver
  pub come_valid : (signed : Signed) (count : ℕ) (sent : List Signed) (xs : List (ComponentView (Setup T))) (new_sent : List Signed) (new_seats : List Seat) → HasCome turn_of signed count cs sent xs new_sent → AreSeated turn_of xs new_seats → AreValidMembers turn_of setup base xs places new_seats
  come_valid signed count sent xs new_sent new_seats d seated = with_one d.place d.c (with_coming turn_of d.c signed) xs new_seats d.there refl d.becomes seated

  pub come_done : (signed : Signed) (count : ℕ) (sent : List Signed) (xs : List (ComponentView (Setup T))) (new_sent : List Signed) → HasCome turn_of signed count cs sent xs new_sent → IsDelivered turn_of signed count old (now xs) sent new_sent
  come_done signed count sent xs new_sent d =
      record { place = d.place; c = d.c; there = d.there; number = d.number; becomes = ap now d.becomes; posts = d.posts; many = d.many }
