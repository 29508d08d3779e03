-- What a component keeps where it drops its done entries below a bound.
use Rattle.std.proofs.Common.{◌≡◌, ℕ, ◌+◌, ◌-◌, ◌<◌, Bool, true, false, cond, Option, List, [], ◌∷◌, length, map, take, refl, ap, sym, subst, ◌∙◌, arith}
use Rattle.std.specs.Prelude.{IfSome}
use Rattle.terms.specs.Datum.{Datum}
use Rattle.terms.specs.Named.{Named}
use Rattle.event_keys.specs.declared.key.Key.{Key}
use Rattle.event_keys.specs.declared.message.Signed.{Signed}
use Rattle.raw_events.specs.Around.{Around}
use Rattle.raw_events.specs.Onto.{onto}
use Rattle.undo_records.specs.First.{oldest}
use Rattle.undo_records.specs.States.{States, without_first}
use Rattle.virtual_time.specs.Entries.{Entry, below, from, number, replay}
use Rattle.virtual_time.specs.Records.{cut_of, turns_among}
use Rattle.task_seed.specs.Turning.{System, key_of}
use Rattle.task_seed.specs.Machines.{machine}
use Rattle.task_seed.specs.Taken.{turn_of}
use Rattle.message_balance.specs.declared.done.Done.{Done}
use Rattle.message_balance.specs.declared.done.Done.TheVariants.{Turn, Input}
use Rattle.rollback.specs.Dropped.{is_done_below, dones_below, dones_from, turns_in, newest_key, number_after}
use Rattle.rollback.specs.Falling.{IsFalling}
use Rattle.rollback.specs.Flight.{items_of}
use Rattle.rollback.proofs.Falling.{falling_from}
use Rattle.rollback.specs.ComponentInvariant.{entry_of, entries_of, IsReady, AllReady, base_state, record_of, IsReplayed, IsValidComponent}
use Rattle.rollback.specs.Replays.{replays_below}
use Rattle.rollback.proofs.Keeping.{depth_is, number_is}
use Rattle.rollback.proofs.Replays.{number_cut, oldest_replay, replay_cut, replays_cut}

pub entries_below : (c : ℕ) (ds : List Done) → entries_of (dones_below c ds) ≡ below c (entries_of ds)
entries_below c [] = refl
entries_below c (d ∷ ds) = go (entries_below c ds) (is_done_below c d)
  where
    go : entries_of (dones_below c ds) ≡ below c (entries_of ds) → (b : Bool) → entries_of (cond b (d ∷ ds) (dones_below c ds)) ≡ cond b (entry_of d ∷ entries_of ds) (below c (entries_of ds))
    go rest true = refl
    go rest false = rest

pub entries_from : (c : ℕ) (ds : List Done) → entries_of (dones_from c ds) ≡ from c (entries_of ds)
entries_from c [] = refl
entries_from c (d ∷ ds) = go (entries_from c ds) (is_done_below c d)
  where
    go : entries_of (dones_from c ds) ≡ from c (entries_of ds) → (b : Bool) → entries_of (cond b [] (d ∷ dones_from c ds)) ≡ cond b [] (entry_of d ∷ from c (entries_of ds))
    go rest true = refl
    go rest false = ap (λ l. entry_of d ∷ l) rest

-- those below and the others are all
pub parts_length : (c : ℕ) (ds : List Done) → length (dones_from c ds) + length (dones_below c ds) ≡ length ds
parts_length c [] = refl
parts_length c (d ∷ ds) = go (parts_length c ds) (is_done_below c d)
  where
    go : length (dones_from c ds) + length (dones_below c ds) ≡ length ds → (b : Bool) → length (cond b [] (d ∷ dones_from c ds)) + length (cond b (d ∷ ds) (dones_below c ds)) ≡ length (d ∷ ds)
    go rest true = omega arith
    go rest false = omega (arith, rest)

pub length_entries : (ds : List Done) → length (entries_of ds) ≡ length ds
length_entries [] = refl
length_entries (d ∷ ds) = let rest = length_entries ds in omega (arith, rest)

map_onto : {X Y : Type 0} (f : X → Y) (xs ys : List X) → map f (onto xs ys) ≡ onto (map f xs) (map f ys)
map_onto f [] ys = refl
map_onto f (x ∷ xs) ys = map_onto f xs (x ∷ ys)

turns_are : (ds : List Done) → map turn_of (turns_in ds) ≡ turns_among (entries_of ds)
turns_are [] = refl
turns_are (Turn turned minuses ∷ ds) = ap (λ l. turn_of turned ∷ l) (turns_are ds)
turns_are (Input x ∷ ds) = turns_are ds

-- the dropped own turns are those of the theory
pub dropped_turns : (c : ℕ) (ds : List Done) → map turn_of (onto (turns_in (dones_below c ds)) []) ≡ onto (turns_among (below c (entries_of ds))) []
dropped_turns c ds =
    map_onto turn_of (turns_in (dones_below c ds)) []
    ∙ ap (λ l. onto l []) (turns_are (dones_below c ds) ∙ ap turns_among (entries_below c ds))

module _ (s : System) (i : ℕ) where
  -- the number of the turn after the newest own turn
  pub newest_number : (first : ℕ) (ds : List Done) → AllReady s i first ds → number_after (newest_key ds) first ≡ number first (entries_of ds)
  newest_number first [] ready = refl
  newest_number first (Turn turned minuses ∷ ds) ready =
      let same = number_is s i (number first (entries_of ds)) turned.key ready.0.0 in
      omega (arith, same)
  newest_number first (Input x ∷ ds) ready = newest_number first ds ready.1

  pub newest_small : (first : ℕ) (ds : List Done) → AllReady s i first ds → IfSome (newest_key ds) (λ key. key.number < 4294967296)
  newest_small first [] ready = tt
  newest_small first (Turn turned minuses ∷ ds) ready = ready.0.1.0
  newest_small first (Input x ∷ ds) ready = newest_small first ds ready.1

  pub ready_below : (first c : ℕ) (ds : List Done) → AllReady s i first ds → AllReady s i first (dones_below c ds)
  ready_below first c [] ready = tt
  ready_below first c (d ∷ ds) ready = go (ready_below first c ds ready.1) (is_done_below c d)
    where
      go : AllReady s i first (dones_below c ds) → (b : Bool) → AllReady s i first (cond b (d ∷ ds) (dones_below c ds))
      go rest true = ready
      go rest false = rest

  pub cut_number : (first c : ℕ) (ds : List Done) → number (number first (entries_of (dones_below c ds))) (entries_of (dones_from c ds)) ≡ number first (entries_of ds)
  cut_number first c ds =
      (λ v. number (number first (entries_below c ds v)) (entries_from c ds v)) ∙ number_cut c first (entries_of ds)

  ready_from : (first c : ℕ) (ds : List Done) → AllReady s i first ds → AllReady s i (number first (entries_of (dones_below c ds))) (dones_from c ds)
  ready_from first c [] ready = tt
  ready_from first c (d ∷ ds) ready = go (ready_from first c ds ready.1) (is_done_below c d)
    where
      go : AllReady s i (number first (entries_of (dones_below c ds))) (dones_from c ds) → (b : Bool) → AllReady s i (number first (entries_of (cond b (d ∷ ds) (dones_below c ds)))) (cond b [] (d ∷ dones_from c ds))
      go rest true = tt
      go rest false = (subst (λ n. IsReady s i n d) (sym (cut_number first c ds)) ready.0, rest)

  module _ (c : ℕ) (states : States) (ds : List Done) (is : IsReplayed s i states ds) where
    old : List (Entry Named)
    old = entries_of ds

    base : List Datum
    base = replay (machine s) i (base_state states) (below c (entries_of ds))

    left_is : length states.below - length (dones_below c ds) ≡ length (from c (entries_of ds))
    left_is =
        let all = depth_is s i states ds is in
        let parts = parts_length c ds in
        let count = length_entries ds in
        let kept = ap (λ l. length l) (entries_from c ds) in
        let kept_count = length_entries (dones_from c ds) in
        omega (arith, all, parts, count, kept, kept_count)

    below_is : take (length states.below - length (dones_below c ds)) states.below ≡ replays_below (machine s) i (replay (machine s) i (base_state states) (below c (entries_of ds))) (from c (entries_of ds))
    below_is =
        (λ v. take (left_is v) (is.below v))
        ∙ sym (replays_cut (machine s) i c (base_state states) (entries_of ds))

    current_is : states.current ≡ replay (machine s) i (replay (machine s) i (base_state states) (below c (entries_of ds))) (from c (entries_of ds))
    current_is = is.current ∙ sym (replay_cut (machine s) i c (base_state states) (entries_of ds))

    -- the base state is the one after the dropped entries
    pub base_is : base_state (without_first (length (dones_below c ds)) states) ≡ replay (machine s) i (base_state states) (below c (entries_of ds))
    base_is =
        (λ v. oldest (current_is v) (below_is v))
        ∙ oldest_replay (machine s) i (replay (machine s) i (base_state states) (below c (entries_of ds))) (from c (entries_of ds))

    replayed_cut : IsReplayed s i (without_first (length (dones_below c ds)) states) (dones_from c ds)
    replayed_cut =
        record {
          current = current_is ∙ (λ v. replay (machine s) i (sym base_is v) (sym (entries_from c ds) v));
          below = below_is ∙ (λ v. replays_below (machine s) i (sym base_is v) (sym (entries_from c ds) v));
        }

  module _ (first c : ℕ) (states : States) (done : Around Done) (pending owed : Around Signed) (own : Option Key) (kept : IsValidComponent s i first states done pending owed own) where
    pub kept_dropped : IsValidComponent s i (number first (entries_of (dones_below c done.before))) (without_first (length (dones_below c done.before)) states) (record { before = dones_from c done.before; after = [] }) pending owed own
    kept_dropped =
        record {
          there = kept.there;
          replayed = replayed_cut c states done.before kept.replayed;
          ready = ready_from first c done.before kept.ready;
          ahead = refl;
          next = kept.next ∙ ap (key_of s i) (sym (cut_number first c done.before));
          small = kept.small;
          waiting = kept.waiting;
          owing = kept.owing;
          falling = subst (λ (es : List (Entry Named)). IsFalling es (items_of pending.after) own) (sym (entries_from c done.before)) (falling_from c (entries_of done.before) (items_of pending.after) own kept.falling);
        }

    pub dropped_record : record_of (without_first (length (dones_below c done.before)) states) (number first (entries_of (dones_below c done.before))) (record { before = dones_from c done.before; after = [] }) pending owed ≡ cut_of (machine s) i c (record_of states first done pending owed)
    dropped_record =
        (λ v. record { base = base_is c states done.before kept.replayed v; first = number first (entries_below c done.before v); done = entries_from c done.before v; pending = (record_of states first done pending owed).pending; owed = (record_of states first done pending owed).owed })

    pub few_dropped : length (dones_below c done.before) < length states.below + 1
    few_dropped =
        let all = depth_is s i states done.before kept.replayed in
        let parts = parts_length c done.before in
        let count = length_entries done.before in
        omega (arith, all, parts, count)
