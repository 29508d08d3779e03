-- The least of the next keys and of the keys in flight is global virtual time.
use Rattle.std.proofs.Common.{◌≡◌, ℕ, zero, suc, ◌+◌, ◌<◌, ◌≤◌, ◌^◌, None, Some, List, [], ◌∷◌, length, min, drop, refl, ap, sym, subst, ◌∙◌, arith}
use Rattle.std.specs.Prelude.{is_some, slice_get, slice_index_or, Option}
use Rattle.std.proofs.lemmas.Bool.{true≢false}
use Rattle.std.proofs.Math.Seq.{drop-cons}
use Rattle.terms.specs.Datum.{Datum}
use Rattle.terms.specs.Named.{Named}
use Rattle.event_keys.specs.Ranks.{rank_of_bound}
use Rattle.event_keys.specs.declared.message.Sign.{Sign}
use Rattle.event_keys.specs.declared.message.Sign.TheVariants.{Plus, Minus}
use Rattle.antimessage.specs.Bags.{least_of}
use Rattle.antimessage.specs.Order.{IsInOrder}
use Rattle.virtual_time.specs.Bags.{AllFrom, IsSorted}
use Rattle.virtual_time.specs.Entries.{Item, number}
use Rattle.virtual_time.specs.Machine.{HasCount, Lawful, Machine}
use Rattle.virtual_time.specs.Records.{next_of}
use Rattle.virtual_time.specs.Replies.{IsVirtualTime, virtual_time}
use Rattle.virtual_time.specs.Worlds.{IsPast, Past, World}
use Rattle.task_seed.specs.declared.setup.Setup.{Setup}
use Rattle.task_seed.specs.declared.turns.Turn.{Turn}
use Rattle.task_seed.specs.Setups.{system}
use Rattle.rollback.specs.Flight.{in_flight}
use Rattle.rollback.specs.ComponentView.{ComponentView, machine_of, next_key}
use Rattle.virtual_time.specs.Rules.{IsWorld}
use Rattle.world.specs.MachineLaws.{FlightLaws, Laws, NextLaws}
use Rattle.world.specs.Simulation.{IsComponent, IsSimulation, Simulation, part_of, record_or_start, world_of}
use Rattle.world.specs.Times.{least_next}

lower : (a b : ℕ) (xs : List (Item Named)) → b ≤ a → AllFrom a xs → AllFrom b xs
lower a b [] l h = tt
lower a b (x ∷ xs) l h = let k = h.0 in (omega (arith, l, k), lower a b xs l h.1)

some_same : {X : Type 0} (a b : X) → Some a ≡ Some b → a ≡ b
some_same a b e = cc

none_there : {X : Type 0} (b : X) → None ≡ Some b → ⊥
none_there b e = true≢false (sym (ap is_some e))

module _ {T : Type 0} (turn_of : T → ℕ → ℕ → Option Turn) where
  -- the least of the components' next keys is not above any
  least_low : (cs : List (ComponentView (Setup T))) (j : ℕ) (c : ComponentView (Setup T)) → slice_get cs j ≡ Some c → least_next turn_of cs ≤ next_key (machine_of turn_of c.setup) (next_of (machine_of turn_of c.setup) c.number c.history)
  least_low [] j c e = absurd (none_there c e)
  least_low (x ∷ cs) zero c e =
      let same : x ≡ c = some_same x c e in
      subst (λ y. least_next turn_of (x ∷ cs) ≤ next_key (machine_of turn_of y.setup) (next_of (machine_of turn_of y.setup) y.number y.history)) same (omega arith)
  least_low (x ∷ cs) (suc j) c e = let rest = least_low cs j c e in omega (arith, rest)

  pub least_end : (cs : List (ComponentView (Setup T))) → least_next turn_of cs ≤ 2 ^ 144
  least_end [] = omega arith
  least_end (c ∷ cs) = let rest = least_end cs in omega (arith, rest)

  -- what is not above any is not above the least
  least_most : (d : ℕ) (cs : List (ComponentView (Setup T))) → d ≤ 2 ^ 144
      → ((j : ℕ) (c : ComponentView (Setup T)) → slice_get cs j ≡ Some c → d ≤ next_key (machine_of turn_of c.setup) (next_of (machine_of turn_of c.setup) c.number c.history)) → d ≤ least_next turn_of cs
  least_most d [] end each = end
  least_most d (c ∷ cs) end each =
      let rest = least_most d cs end (λ j x e. each (suc j) x e) in
      let one = each zero c refl in
      omega (arith, rest, one)

  -- so far the least of those that were passed, with those that are left
  pub least_starts : (cs : List (ComponentView (Setup T))) → min (2 ^ 144) (least_next turn_of cs) ≡ least_next turn_of cs
  least_starts cs = let end = least_end cs in omega (arith, end)

  pub least_steps : (cs : List (ComponentView (Setup T))) (n : ℕ) (c : ComponentView (Setup T)) (a b new : ℕ) → c ≡ slice_index_or cs n c → n < length cs → b ≡ next_key (machine_of turn_of c.setup) (next_of (machine_of turn_of c.setup) c.number c.history)
      → new ≡ min a b → min a (least_next turn_of (drop n cs)) ≡ least_next turn_of cs → min new (least_next turn_of (drop (n + 1) cs)) ≡ least_next turn_of cs
  least_steps cs n c a b new is there key lesser h =
      let split : least_next turn_of (drop n cs) ≡ min (next_key (machine_of turn_of c.setup) (next_of (machine_of turn_of c.setup) c.number c.history)) (least_next turn_of (drop (n + 1) cs)) = ap (least_next turn_of) (drop_item cs n c is there) in
      omega (arith, key, lesser, h, split)
    where
      drop_item : {X : Type 0} (xs : List X) (i : ℕ) (x : X) → x ≡ slice_index_or xs i x → i < length xs → drop i xs ≡ x ∷ drop (i + 1) xs
      drop_item xs i x is low = let next : suc i ≡ i + 1 = omega arith in drop-cons xs i x low ∙ ap (λ y. y ∷ drop (suc i) xs) (sym is) ∙ ap (λ k. x ∷ drop k xs) next

  pub least_stops : (cs : List (ComponentView (Setup T))) (n b : ℕ) → length cs ≤ n → b ≤ 2 ^ 144 → min b (least_next turn_of (drop n cs)) ≡ least_next turn_of cs → b ≡ least_next turn_of cs
  least_stops cs n b past end h =
      let none : least_next turn_of (drop n cs) ≡ 2 ^ 144 = ap (least_next turn_of) (drop_past cs n past) in
      omega (arith, end, h, none)
    where
      drop_past : {X : Type 0} (xs : List X) (i : ℕ) → length xs ≤ i → drop i xs ≡ []
      drop_past [] zero l = refl
      drop_past [] (suc i) l = refl
      drop_past (x ∷ xs) zero l = absurd (omega (arith, l))
      drop_past (x ∷ xs) (suc i) l = drop_past xs i (omega (arith, l))

module _ {T : Type 0} (turn_of : T → ℕ → ℕ → Option Turn) (w : Simulation (Setup T)) where
  abbrev m : Machine (List Datum) Named
  m = machine_of turn_of w.setup

  module _ (law : Lawful m) (count : ℕ) (counted : HasCount m count) (top : m.top ≡ 2 ^ 144) (next : NextLaws m) (flight : FlightLaws m) (order : IsInOrder w.flight) (many : length w.components ≡ count)
      (components : (j : ℕ) (c : ComponentView (Setup T)) → slice_get w.components j ≡ Some c → IsComponent w j c)
      (sorted : (j : ℕ) (c : ComponentView (Setup T)) → slice_get w.components j ≡ Some c → IsSorted m c.history.pending) (g : ℕ) (is : g ≡ min (least_next turn_of w.components) (rank_of_bound (least_of w.flight))) where
    in_time : (sign : Sign) (j : ℕ) → AllFrom g (in_flight sign j w.flight)
    in_time sign j = lower (rank_of_bound (least_of w.flight)) g (in_flight sign j w.flight) (omega (arith, is)) (flight.low sign j w.flight order)

    -- the next key of component j as the world's machine has it
    next_here : (j : ℕ) (c : ComponentView (Setup T)) → slice_get w.components j ≡ Some c → next_key (machine_of turn_of c.setup) (next_of (machine_of turn_of c.setup) c.number c.history) ≡ next_key m (next_of m j c.history)
    next_here j c e =
        let here = components j c e in
        ap (λ s. next_key (machine_of turn_of s) (next_of (machine_of turn_of s) c.number c.history)) here.setup ∙ ap (λ n. next_key m (next_of m n c.history)) here.number

    past_at : (j : ℕ) (o : Option (ComponentView (Setup T))) → slice_get w.components j ≡ o → IsPast m g j (part_of (record_or_start m j o) w.flight j)
    past_at j None e =
        let past = slice_get_none w.components j e in
        let silent = counted.silent j 0 (omega (arith, past, many)) in
        let end = least_end turn_of w.components in
        record { turn = omega (arith, is, silent, top, end); pending = tt; plus = in_time Plus j; minus = in_time Minus j }
      where
        slice_get_none : {X : Type 0} (xs : List X) (j : ℕ) → slice_get xs j ≡ None → length xs ≤ j
        slice_get_none [] j e = omega arith
        slice_get_none (x ∷ xs) zero e = cc
        slice_get_none (x ∷ xs) (suc j) e = let rest = slice_get_none xs j e in omega (arith, rest)
    past_at j (Some c) e =
        let low = least_low turn_of w.components j c e in
        let here = next_here j c e in
        let under : g ≤ next_key m (next_of m j c.history) = omega (arith, is, low, here) in
        let own = next.own j c.history in
        record { turn = omega (arith, under, own); pending = lower (next_key m (next_of m j c.history)) g c.history.pending under (next.pending j c.history (sorted j c e)); plus = in_time Plus j; minus = in_time Minus j }

    pub past : Past m g (world_of m w)
    past j = past_at j (slice_get w.components j) refl

    -- no greater number is below all of them
    pub most : (d : ℕ) → Past m d (world_of m w) → d ≤ g
    most d below =
        let first = below 0 in
        let turn = first.turn in
        let bounded = law.bounded 0 (number ((world_of m w).part 0).first ((world_of m w).part 0).done) in
        let end : d ≤ 2 ^ 144 = omega (arith, turn, bounded, top) in
        let in_flight_low = flight.most d w.flight (omega (arith, end, top)) (λ sign j. at sign j) in
        let next_low = least_most turn_of d w.components end each in
        omega (arith, is, in_flight_low, next_low)
      where
        at : (sign : Sign) (j : ℕ) → AllFrom d (in_flight sign j w.flight)
        at Plus j = (below j).plus
        at Minus j = (below j).minus

        each : (j : ℕ) (c : ComponentView (Setup T)) → slice_get w.components j ≡ Some c → d ≤ next_key (machine_of turn_of c.setup) (next_of (machine_of turn_of c.setup) c.number c.history)
        each j c e =
            let p = subst (λ o. IsPast m d j (part_of (record_or_start m j o) w.flight j)) e (below j) in
            let under = next.most j d c.history p.turn p.pending in
            let here = next_here j c e in
            omega (arith, under, here)

    -- so it is the time that there is
    pub time : (v : ℕ) → IsVirtualTime m (world_of m w) v → ((b : ℕ) → Past m b (world_of m w) → b ≤ v) → IsVirtualTime m (world_of m w) g
    time v is_time greatest =
        let up = greatest g past in
        let down = most v is_time.least in
        let same : v ≡ g = omega (arith, up, down) in
        subst (IsVirtualTime m (world_of m w)) same is_time

module _ {T : Type 0} (turn_of : T → ℕ → ℕ → Option Turn) (w : Simulation (Setup T)) (laws : Laws (machine_of turn_of w.setup) (length (system turn_of w.setup).composition)) (is : IsSimulation (system turn_of w.setup) w) (order : IsInOrder w.flight) (g : ℕ)
    (g_is : g ≡ min (least_next turn_of w.components) (rank_of_bound (least_of w.flight))) where
  abbrev count : ℕ
  count = length (system turn_of w.setup).composition

  abbrev seen : World (List Datum) Named
  seen = world_of (machine_of turn_of w.setup) w

  abbrev sound : IsWorld (machine_of turn_of w.setup) seen
  sound = laws.world.sound seen is.reached

  pending_sorted : (j : ℕ) (c : ComponentView (Setup T)) → slice_get w.components j ≡ Some c → IsSorted (machine_of turn_of w.setup) c.history.pending
  pending_sorted j c e = subst (λ o. IsSorted (machine_of turn_of w.setup) (record_or_start (machine_of turn_of w.setup) j o).pending) e (sound.proper j).sorted

  pub gvt_time : IsVirtualTime (machine_of turn_of w.setup) seen g
  gvt_time =
      let v = virtual_time (machine_of turn_of w.setup) count seen in
      let v_is = laws.world.time seen is.reached in
      time turn_of w laws.lawful count laws.counted laws.top laws.next laws.flight order is.many is.components pending_sorted g g_is v v_is (λ b past. laws.world.most seen v b v_is past)

  pub gvt_bound : rank_of_bound w.bound ≤ g
  gvt_bound = laws.world.bound seen g sound gvt_time
