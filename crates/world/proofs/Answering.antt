-- What each step answers, and that it keeps a world.
use Rattle.std.proofs.Common.{◌≡◌, ℕ, ◌<◌, ◌≤◌, ◌⊎◌, inl, inr, Bool, true, false, cond, Option, None, Some, List, [], ◌∷◌, length, is_some, true≢false, refl, ap, sym, subst, ◌∙◌, arith}
use Rattle.std.specs.Prelude.{IsSomeAnd, slice_get, slice_set, if◌then◌else◌}
use Rattle.std.proofs.lemmas.Bool.{cases_lt}
use Rattle.terms.specs.Datum.{Datum}
use Rattle.terms.specs.Named.{Named}
use Rattle.event_keys.specs.Ranks.{rank}
use Rattle.event_keys.specs.declared.key.Key.{Key}
use Rattle.event_keys.specs.declared.message.Message.{Message}
use Rattle.event_keys.specs.declared.message.Sign.{Sign}
use Rattle.event_keys.specs.declared.message.Sign.TheVariants.{Plus, Minus}
use Rattle.event_keys.specs.declared.message.Signed.{Signed}
use Rattle.raw_events.specs.Around.{first_where}
use Rattle.antimessage.specs.Bags.{has_pair, is_one, met, remove as remove_one}
use Rattle.antimessage.specs.Counts.{minus, plus}
use Rattle.antimessage.specs.Order.{IsInOrder, KeyFits}
use Rattle.virtual_time.specs.Bags.{has, insert, remove}
use Rattle.virtual_time.specs.Entries.{Entry, Input, Item, Own, entry_key}
use Rattle.virtual_time.specs.Machine.{HasCount, Machine}
use Rattle.virtual_time.specs.Records.{Record, next_of, roll_back_of, sent_by, unsent}
use Rattle.virtual_time.specs.Replies as theory
use Rattle.virtual_time.specs.Replies.{Answers, IsReached, Reply}
use Rattle.virtual_time.specs.Worlds as happening
use Rattle.virtual_time.specs.Worlds.{Step, World, record_of}
use Rattle.task_seed.specs.declared.setup.Setup.{Setup}
use Rattle.task_seed.specs.declared.turns.Turn.{Turn}
use Rattle.task_seed.specs.Setups.{system}
use Rattle.task_seed.specs.Turning.{System}
use Rattle.rollback.specs.Flight.{goes, in_flight, item_of}
use Rattle.rollback.specs.ComponentView.{ComponentView, back_by, comes, last_key, last_of, machine_of, processed, sent_next}
use Rattle.rollback.specs.Post.{IsPosted}
use Rattle.rollback.specs.Stepped.{HasNextKey, IsNextSent, next_entry, stepped}
use Rattle.world.specs.MachineLaws.{Laws}
use Rattle.world.specs.Simulation.{IsComponent, IsSimulation, Simulation, world_of}
use Rattle.world.specs.Stepping.{IsStep}
use Rattle.world.specs.Steps.{delivery}
use Rattle.world.proofs.Putting.{get_set, get_there, set_length}
use Rattle.world.proofs.Reaching.{reached_step}
use Rattle.world.proofs.Moved.{antimessage_delivered, can_meet_is, message_delivered, message_met, order_removed, processes, record_is, rolls_back}

some_is : {X : Type 0} (a b : X) → Some a ≡ Some b → a ≡ b
some_is a b e = cc

not_some : {X : Type 0} (a : X) → Some a ≡ None → ⊥
not_some a e = cc

-- nothing is sent to where nobody is
module _ (m : Machine (List Datum) Named) (count : ℕ) (counted : HasCount m count) (i j : ℕ) (past : count ≤ j) where
  sent_nowhere : (e : Entry Named) (xs : List (Item Named)) → sent_by m i e j xs ≡ xs
  sent_nowhere (Own k None) xs = refl
  sent_nowhere (Own k (Some a)) xs = ap (λ b. cond b (insert m (record { key = k; action = a }) xs) xs) (counted.deaf i a j past)
  sent_nowhere (Input x) xs = refl

  unsent_nowhere : (es : List (Entry Named)) (xs : List (Item Named)) → unsent m i es j xs ≡ xs
  unsent_nowhere [] xs = refl
  unsent_nowhere (e ∷ es) xs = ap (unsent m i es j) (sent_nowhere e xs) ∙ unsent_nowhere es xs

  next_nowhere : (o : Option (Entry Named)) (xs : List (Item Named)) → sent_next m i o j xs ≡ xs
  next_nowhere None xs = refl
  next_nowhere (Some e) xs = sent_nowhere e xs

module _ {T : Type 0} (turn_of : T → ℕ → ℕ → Option Turn) (w : Simulation (Setup T)) (laws : Laws (machine_of turn_of w.setup) (length (system turn_of w.setup).composition)) (is : IsSimulation (system turn_of w.setup) w) where
  abbrev s : System
  s = system turn_of w.setup

  abbrev m : Machine (List Datum) Named
  m = machine_of turn_of w.setup

  abbrev count : ℕ
  count = length s.composition

  -- a step that changed one component and what is in flight
  changed : (step : Step Named) (reply : Reply) (i : ℕ) (d : ComponentView (Setup T)) (flight : List Signed) → i < length w.components → IsComponent w i d
      → ((sign : Sign) (j : ℕ) → count ≤ j → in_flight sign j flight ≡ [])
      → Answers m count (world_of m w) step reply (world_of m (record w { components = slice_set w.components i d; flight = flight })) → IsStep turn_of w step reply (record w { components = slice_set w.components i d; flight = flight })
  changed step reply i d flight there component inside answers =
      let after : Simulation (Setup T) = record w { components = slice_set w.components i d; flight = flight } in
      record {
        answers = answers;
        kept = record {
          reached = reached_step m count step reply (world_of m w) (world_of m after) is.reached answers;
          many = set_length w.components i d ∙ is.many;
          components = get_set (λ j c. IsComponent after j c) w.components i d there (record { number = component.number; setup = component.setup; base = component.base }) (λ j c e. let h = is.components j c e in record { number = h.number; setup = h.setup; base = h.base });
          inside = inside;
        };
      }

  -- a step that is refused
  pub refused : (step : Step Named) (reply : Reply) → Answers m count (world_of m w) step reply (world_of m w) → IsStep turn_of w step reply w
  refused step reply answers = record { answers = answers; kept = is }

  inside_posted : (sign : Sign) (change : ℕ → List (Item Named) → List (Item Named)) (old flight : List Signed) → ((j : ℕ) → count ≤ j → change j [] ≡ []) → ((other : Sign) (j : ℕ) → count ≤ j → in_flight other j old ≡ [])
      → IsPosted sign change old flight → (other : Sign) (j : ℕ) → count ≤ j → in_flight other j flight ≡ []
  inside_posted Plus change old flight none was posted Plus j l = posted.there j ∙ ap (change j) (was Plus j l) ∙ none j l
  inside_posted Plus change old flight none was posted Minus j l = posted.other j ∙ was Minus j l
  inside_posted Minus change old flight none was posted Minus j l = posted.there j ∙ ap (change j) (was Minus j l) ∙ none j l
  inside_posted Minus change old flight none was posted Plus j l = posted.other j ∙ was Plus j l

  module _ (i : ℕ) where
    -- no component has the number
    pub no_component_processes : length w.components ≤ i → Answers m count (world_of m w) (happening.Process i) (theory.Refused 30) (world_of m w)
    no_component_processes l = let many = is.many in inl (omega (arith, l, many), record { reply_is = refl; stays = refl })

    pub no_component_rolls_back : length w.components ≤ i → Answers m count (world_of m w) (happening.RollBack i) (theory.Refused 30) (world_of m w)
    no_component_rolls_back l = let many = is.many in inl (omega (arith, l, many), record { reply_is = refl; stays = refl })

    module _ (there : i < length w.components) where
      found : (c : ComponentView (Setup T)) × (slice_get w.components i ≡ Some c)
      found = get_there w.components i there

      abbrev c : ComponentView (Setup T)
      c = found.0

      abbrev was : slice_get w.components i ≡ Some c
      was = found.1

      here : IsComponent w i c
      here = is.components i c was

      short : i < count
      short = let many = is.many in omega (arith, there, many)

      -- the component's machine is the world's
      next_is : next_entry turn_of c ≡ next_of m c.number c.history
      next_is = ap (λ p. next_of (machine_of turn_of p) c.number c.history) here.setup

      next_in_world : next_of m i (record_of ((world_of m w).part i)) ≡ next_entry turn_of c
      next_in_world = ap (next_of m i) (record_is m laws.lawful w i c there was here.number) ∙ ap (λ n. next_of m n c.history) (sym here.number) ∙ sym next_is

      pub step_processed : (key : Key) (components : List (ComponentView (Setup T))) (flight : List Signed) → ((x : ComponentView (Setup T)) → slice_get w.components i ≡ Some x → HasNextKey turn_of x key)
          → ((x : ComponentView (Setup T)) → slice_get w.components i ≡ Some x → (components ≡ slice_set w.components i (stepped turn_of x)) × IsNextSent turn_of x w.flight flight)
          → IsStep turn_of w (happening.Process i) (theory.Processed (rank key)) (record w { components = components; flight = flight })
      step_processed key components flight keys done = go (next_entry turn_of c) refl (keys c was)
        where
          posted : IsPosted Plus (sent_next m c.number (next_of m c.number c.history)) w.flight flight
          posted = subst (λ p. IsPosted Plus (sent_next (machine_of turn_of p) c.number (next_of (machine_of turn_of p) c.number c.history)) w.flight flight) here.setup (done c was).1

          stepped_is : components ≡ slice_set w.components i (record c { history = processed (next_of m c.number c.history) c.history })
          stepped_is = (done c was).0 ∙ ap (λ o. slice_set w.components i (record c { history = processed o c.history })) next_is

          go : (o : Option (Entry Named)) → next_entry turn_of c ≡ o → IsSomeAnd o (λ entry. entry_key entry ≡ rank key) → IsStep turn_of w (happening.Process i) (theory.Processed (rank key)) (record w { components = components; flight = flight })
          go None e k = absurd k
          go (Some e) next k =
              let d : ComponentView (Setup T) = record c { history = processed (next_of m c.number c.history) c.history } in
              let world_is = processes m laws.lawful w i c there was here.number e flight (sym next_is ∙ next) posted in
              let answers : Answers m count (world_of m w) (happening.Process i) (theory.Processed (rank key)) (world_of m (record w { components = slice_set w.components i d; flight = flight }))
              = inr (inr (e, short, next_in_world ∙ next, inr (ap (λ n. theory.Processed n) (sym k), world_is))) in
              subst (λ cs. IsStep turn_of w (happening.Process i) (theory.Processed (rank key)) (record w { components = cs; flight = flight })) (sym stepped_is)
              (changed (happening.Process i) (theory.Processed (rank key)) i d flight there (record { number = here.number; setup = here.setup; base = here.base })
              (inside_posted Plus (sent_next m c.number (next_of m c.number c.history)) w.flight flight (λ j l. next_nowhere m count laws.counted c.number j l (next_of m c.number c.history) []) is.inside posted) answers)

      pub nothing_processed : ((x : ComponentView (Setup T)) → slice_get w.components i ≡ Some x → next_entry turn_of x ≡ None) → Answers m count (world_of m w) (happening.Process i) (theory.Refused 31) (world_of m w)
      nothing_processed none = inr (inl (short, next_in_world ∙ none c was, record { reply_is = refl; stays = refl }))

      pub not_processed : ((x : ComponentView (Setup T)) → slice_get w.components i ≡ Some x → next_entry turn_of x ≡ None → ⊥) → Answers m count (world_of m w) (happening.Process i) (theory.Refused 1) (world_of m w)
      not_processed some = go (next_entry turn_of c) refl
        where
          go : (o : Option (Entry Named)) → next_entry turn_of c ≡ o → Answers m count (world_of m w) (happening.Process i) (theory.Refused 1) (world_of m w)
          go None e = absurd (some c was e)
          go (Some e) next = inr (inr (e, short, next_in_world ∙ next, inl (record { reply_is = refl; stays = refl })))

      done_in_world : ((world_of m w).part i).done ≡ c.history.done
      done_in_world = ap (λ (r : Record (List Datum) Named). r.done) (record_is m laws.lawful w i c there was here.number)

      pub step_rolled_back : (key : Key) (components : List (ComponentView (Setup T))) (flight : List Signed) → ((x : ComponentView (Setup T)) → slice_get w.components i ≡ Some x → Some (rank key) ≡ last_key x.history.done)
          → ((x : ComponentView (Setup T)) → slice_get w.components i ≡ Some x → (components ≡ slice_set w.components i (record x { history = roll_back_of (machine_of turn_of x.setup) x.history })) × IsPosted Minus (unsent (machine_of turn_of x.setup) x.number (last_of x.history.done)) w.flight flight)
          → IsStep turn_of w (happening.RollBack i) (theory.RolledBack (rank key)) (record w { components = components; flight = flight })
      step_rolled_back key components flight keys done = go c.history.done refl (keys c was)
        where
          posted : IsPosted Minus (unsent m c.number (last_of c.history.done)) w.flight flight
          posted = subst (λ p. IsPosted Minus (unsent (machine_of turn_of p) c.number (last_of c.history.done)) w.flight flight) here.setup (done c was).1

          rolled : components ≡ slice_set w.components i (record c { history = roll_back_of m c.history })
          rolled = (done c was).0 ∙ ap (λ p. slice_set w.components i (record c { history = roll_back_of (machine_of turn_of p) c.history })) here.setup

          go : (es : List (Entry Named)) → c.history.done ≡ es → Some (rank key) ≡ last_key es → IsStep turn_of w (happening.RollBack i) (theory.RolledBack (rank key)) (record w { components = components; flight = flight })
          go [] q k = absurd (not_some (rank key) k)
          go (e ∷ es) q k =
              let d : ComponentView (Setup T) = record c { history = roll_back_of m c.history } in
              let world_is = rolls_back m laws.lawful w i c there was here.number e es flight q posted in
              let key_is : entry_key e ≡ rank key = sym (some_is (rank key) (entry_key e) k) in
              let answers : Answers m count (world_of m w) (happening.RollBack i) (theory.RolledBack (rank key)) (world_of m (record w { components = slice_set w.components i d; flight = flight }))
              = inr (inr (e, es, short, done_in_world ∙ q, ap (λ n. theory.RolledBack n) (sym key_is), world_is)) in
              subst (λ cs. IsStep turn_of w (happening.RollBack i) (theory.RolledBack (rank key)) (record w { components = cs; flight = flight })) (sym rolled)
              (changed (happening.RollBack i) (theory.RolledBack (rank key)) i d flight there (record { number = here.number; setup = here.setup; base = here.base })
              (inside_posted Minus (unsent m c.number (last_of c.history.done)) w.flight flight (λ j l. unsent_nowhere m count laws.counted c.number j l (last_of c.history.done) []) is.inside posted) answers)

      pub nothing_rolled_back : ((x : ComponentView (Setup T)) → slice_get w.components i ≡ Some x → None ≡ last_key x.history.done) → Answers m count (world_of m w) (happening.RollBack i) (theory.Refused 33) (world_of m w)
      nothing_rolled_back none = inr (inl (short, done_in_world ∙ empty c.history.done (none c was), record { reply_is = refl; stays = refl }))
        where
          empty : (es : List (Entry Named)) → None ≡ last_key es → es ≡ []
          empty [] e = refl
          empty (x ∷ es) e = absurd (not_some (entry_key x) (sym e))

  module _ (order : IsInOrder w.flight) (message : Message) (fits : KeyFits message.key) where
    abbrev y : Item Named
    y = item_of (plus message)

    -- what a message in flight says of its receiver
    pub receiver : (sign : Sign) → has m y (in_flight sign message.to w.flight) ≡ true → message.to < length w.components
    receiver sign h = go (cases_lt message.to (length w.components))
      where
        go : (message.to < length w.components) ⊎ (length w.components ≤ message.to) → message.to < length w.components
        go (inl l) = l
        go (inr l) =
            let many = is.many in
            let none : has m y (in_flight sign message.to w.flight) ≡ false = ap (has m y) (is.inside sign message.to (omega (arith, l, many))) in
            absurd (true≢false (sym h ∙ none))

    -- it isn't in flight
    pub no_message : has m y (in_flight Plus message.to w.flight) ≡ false → Answers m count (world_of m w) (delivery Plus message) (theory.Refused 32) (world_of m w)
    no_message e = inl (e, record { reply_is = refl; stays = refl })

    pub no_antimessage : has m y (in_flight Minus message.to w.flight) ≡ false → Answers m count (world_of m w) (delivery Minus message) (theory.Refused 32) (world_of m w)
    no_antimessage e = inl (e, record { reply_is = refl; stays = refl })

    pub no_delivery : (sign : Sign) → has m y (in_flight sign message.to w.flight) ≡ false → Answers m count (world_of m w) (delivery sign message) (theory.Refused 32) (world_of m w)
    no_delivery Plus e = no_message e
    no_delivery Minus e = no_antimessage e

    pub is_there : (sign : Sign) → is_some (first_where (is_one (record { message = message; sign = sign })) w.flight) ≡ has m y (in_flight sign message.to w.flight)
    is_there sign = laws.flight.found (record { message = message; sign = sign }) w.flight order fits

    left_inside : (sign : Sign) (other : Sign) (j : ℕ) → count ≤ j → in_flight other j (remove_one (record { message = message; sign = sign }) w.flight) ≡ []
    left_inside sign other j l =
        laws.flight.removed other j (record { message = message; sign = sign }) w.flight order fits
        ∙ ap (λ xs. cond (goes other j (record { message = message; sign = sign })) (remove m y xs) xs) (is.inside other j l)
        ∙ go (goes other j (record { message = message; sign = sign }))
      where
        go : (b : Bool) → cond b (remove m y []) [] ≡ []
        go true = refl
        go false = refl

    pub step_delivered : (sign : Sign) (answer : ℕ) (components : List (ComponentView (Setup T))) (flight : List Signed) → has m y (in_flight sign message.to w.flight) ≡ true
        → ((x : ComponentView (Setup T)) → slice_get w.components message.to ≡ Some x → (components ≡ slice_set w.components message.to (record x { history = comes (machine_of turn_of x.setup) sign y x.history }))
        × IsPosted Minus (unsent (machine_of turn_of x.setup) x.number (back_by (machine_of turn_of x.setup) sign y x.history)) (remove_one (record { message = message; sign = sign }) w.flight) flight)
        → ((x : ComponentView (Setup T)) → slice_get w.components message.to ≡ Some x → answer ≡ length (back_by (machine_of turn_of x.setup) sign y x.history))
        → IsStep turn_of w (delivery sign message) (theory.Delivered answer) (record w { components = components; flight = flight })
    step_delivered sign answer components flight has_it done counts =
        subst (λ cs. IsStep turn_of w (delivery sign message) (theory.Delivered answer) (record w { components = cs; flight = flight })) (sym came)
        (changed (delivery sign message) (theory.Delivered answer) message.to d flight there (record { number = here.number; setup = here.setup; base = here.base })
        (inside_posted Minus (unsent m c.number (back_by m sign y c.history)) (remove_one (record { message = message; sign = sign }) w.flight) flight (λ j l. unsent_nowhere m count laws.counted c.number j l (back_by m sign y c.history) []) (left_inside sign) posted) (answers sign refl))
      where
        there : message.to < length w.components
        there = receiver sign has_it

        found : (c : ComponentView (Setup T)) × (slice_get w.components message.to ≡ Some c)
        found = get_there w.components message.to there

        c : ComponentView (Setup T)
        c = found.0

        was : slice_get w.components message.to ≡ Some c
        was = found.1

        here : IsComponent w message.to c
        here = is.components message.to c was

        d : ComponentView (Setup T)
        d = record c { history = comes m sign y c.history }

        came : components ≡ slice_set w.components message.to d
        came = (done c was).0 ∙ ap (λ p. slice_set w.components message.to (record c { history = comes (machine_of turn_of p) sign y c.history })) here.setup

        posted : IsPosted Minus (unsent m c.number (back_by m sign y c.history)) (remove_one (record { message = message; sign = sign }) w.flight) flight
        posted = subst (λ p. IsPosted Minus (unsent (machine_of turn_of p) c.number (back_by (machine_of turn_of p) sign y c.history)) (remove_one (record { message = message; sign = sign }) w.flight) flight) here.setup (done c was).1

        seen : record_of ((world_of m w).part message.to) ≡ c.history
        seen = record_is m laws.lawful w message.to c there was here.number

        count_is : answer ≡ length (back_by m sign y (record_of ((world_of m w).part message.to)))
        count_is = counts c was ∙ ap (λ p. length (back_by (machine_of turn_of p) sign y c.history)) here.setup ∙ ap (λ r. length (back_by m sign y r)) (sym seen)

        answers : (g : Sign) → sign ≡ g → Answers m count (world_of m w) (delivery sign message) (theory.Delivered answer) (world_of m (record w { components = slice_set w.components message.to d; flight = flight }))
        answers Plus e =
            subst (λ g. Answers m count (world_of m w) (delivery g message) (theory.Delivered answer) (world_of m (record w { components = slice_set w.components message.to (record c { history = comes m g y c.history }); flight = flight }))) (sym e)
            (inr (
              subst (λ g. has m y (in_flight g message.to w.flight) ≡ true) e has_it,
              ap (λ n. theory.Delivered n) (subst (λ g. answer ≡ length (back_by m g y (record_of ((world_of m w).part message.to)))) e count_is),
              message_delivered m laws.lawful laws.flight w order message fits c there was here.number flight (subst (λ g. IsPosted Minus (unsent m c.number (back_by m g y c.history)) (remove_one (record { message = message; sign = g }) w.flight) flight) e posted),
            ))
        answers Minus e =
            subst (λ g. Answers m count (world_of m w) (delivery g message) (theory.Delivered answer) (world_of m (record w { components = slice_set w.components message.to (record c { history = comes m g y c.history }); flight = flight }))) (sym e)
            (inr (
              subst (λ g. has m y (in_flight g message.to w.flight) ≡ true) e has_it,
              ap (λ n. theory.Delivered n) (subst (λ g. answer ≡ length (back_by m g y (record_of ((world_of m w).part message.to)))) e count_is),
              antimessage_delivered m laws.lawful laws.flight w order message fits c there was here.number flight (subst (λ g. IsPosted Minus (unsent m c.number (back_by m g y c.history)) (remove_one (record { message = message; sign = g }) w.flight) flight) e posted),
            ))

    -- a pair meets
    pub step_met : has_pair message w.flight ≡ true → IsStep turn_of w (happening.Meet message.to y) theory.Met (record w { flight = met message w.flight })
    step_met both =
        let after : Simulation (Setup T) = record w { flight = met message w.flight } in
        let answers : Answers m count (world_of m w) (happening.Meet message.to y) theory.Met (world_of m after)
        = inr (sym (can_meet_is m laws.lawful laws.flight w order message fits) ∙ both, refl, message_met m laws.lawful laws.flight w order message fits both) in
        record {
          answers = answers;
          kept = record {
            reached = reached_step m count (happening.Meet message.to y) theory.Met (world_of m w) (world_of m after) is.reached answers;
            many = is.many;
            components = λ j c e. let h = is.components j c e in record { number = h.number; setup = h.setup; base = h.base };
            inside = λ sign j l. ap (in_flight sign j) (ap (λ (b : Bool). if b then remove_one (plus message) (remove_one (minus message) w.flight) else w.flight) both)
                ∙ laws.flight.removed sign j (plus message) (remove_one (minus message) w.flight) (order_removed (minus message) w.flight order) fits
                ∙ ap (λ xs. cond (goes sign j (plus message)) (remove m y xs) xs) (left_inside Minus sign j l) ∙ nothing (goes sign j (plus message));
          };
        }
      where
        nothing : (b : Bool) → cond b (remove m y []) [] ≡ []
        nothing true = refl
        nothing false = refl

    pub none_met : has_pair message w.flight ≡ false → Answers m count (world_of m w) (happening.Meet message.to y) (theory.Refused 32) (world_of m w)
    none_met none = inl (sym (can_meet_is m laws.lawful laws.flight w order message fits) ∙ none, record { reply_is = refl; stays = refl })
