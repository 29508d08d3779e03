-- The worlds of the core, and its five steps.
use Rattle.std.specs.Prelude.{◌≡◌, ℕ, zero, suc, ◌+◌, ◌-◌, ◌≤◌, ◌==◌, ◌&&◌, ◌⊎◌, Bool, cond, Option, None, Some, List, [], ◌∷◌, ◌<◌}
use Rattle.virtual_time.specs.Records.{Record, after_entry, antimessage_comes, back_at, back_by_antimessage, back_by_message, message_comes, next_of, sent_by, unsent}
use Rattle.virtual_time.specs.Bags.{AllFrom, has, remove}
use Rattle.virtual_time.specs.Reference.{Turn, add_turn}
use Rattle.virtual_time.specs.Entries.{Entry, Item, below, from, number, replay, turn_at}
use Rattle.virtual_time.specs.Machine.{Machine}

-- One component and what is in flight to it: messages (plus) and antimessages (minus). The other fields are those of a record.
pub record Part (State Action : Type 0) : Type 0 where
  -- at the committed bound
  pub base : State
  pub first : ℕ
  -- the last one first
  pub done : List (Entry Action)
  pub pending : List (Item Action)
  pub owed : List (Item Action)
  pub plus : List (Item Action)
  pub minus : List (Item Action)

-- A world: the components, the committed bound, and the turns committed, the last one first.
pub record World (State Action : Type 0) : Type 0 where
  pub part : ℕ → Part State Action
  pub bound : ℕ
  -- the last one first
  pub committed : List (Turn Action)

-- What may happen in a world: five kinds of step, where a delivery is of a message or of an antimessage. (Jefferson, local control.)
pub data Step (Action : Type 0) : Type 0 where
  Process : ℕ → Step Action
  RollBack : ℕ → Step Action
  DeliverMessage : ℕ → Item Action → Step Action
  DeliverAntimessage : ℕ → Item Action → Step Action
  Meet : ℕ → Item Action → Step Action
  Commit : ℕ → Step Action

-- The record of a component of a world.
abbrev pub record_of : {S A : Type 0} → Part S A → Record S A
record_of c = record { base = c.base; first = c.first; done = c.done; pending = c.pending; owed = c.owed }

-- These parts in place of the world's.
abbrev pub with_parts : {S A : Type 0} → World S A → (ℕ → Part S A) → World S A
with_parts w parts = record { part = parts; bound = w.bound; committed = w.committed }

-- What the parts are where component i's is this one.
abbrev pub put : {S A : Type 0} → ℕ → Part S A → (ℕ → Part S A) → ℕ → Part S A
put i c parts j = cond (j == i) c (parts j)

-- The part with this record.
abbrev pub with_record : {S A : Type 0} → Part S A → Record S A → Part S A
with_record c r = record { base = r.base; first = r.first; done = r.done; pending = r.pending; owed = r.owed; plus = c.plus; minus = c.minus }

-- The world with this record put back at component i, and with the messages and the antimessages in flight to each
-- component changed by these functions.
abbrev pub put_back : {S A : Type 0} → ℕ → Record S A → (ℕ → List (Item A) → List (Item A)) → (ℕ → List (Item A) → List (Item A)) → World S A → World S A
put_back i r plus minus w =
    with_parts w (λ j. let c = put i (with_record (w.part i) r) w.part j in
    record { base = c.base; first = c.first; done = c.done; pending = c.pending; owed = c.owed; plus = plus j c.plus; minus = minus j c.minus })

-- What is in flight stays.
abbrev pub same : {A : Type 0} → ℕ → List (Item A) → List (Item A)
same j xs = xs

-- The item leaves what is in flight to component i.
abbrev pub taken_at : {S A : Type 0} → Machine S A → ℕ → Item A → ℕ → List (Item A) → List (Item A)
taken_at machine i x j xs = cond (j == i) (remove machine x xs) xs

-- Component i does this entry, and what it sends is in flight.
abbrev pub process_entry : {S A : Type 0} → Machine S A → ℕ → Option (Entry A) → World S A → World S A
process_entry machine i None w = w
process_entry machine i (Some e) w = put_back i (after_entry e (record_of (w.part i))) (sent_by machine i e) same w

-- Component i does its next entry.
abbrev pub process : {S A : Type 0} → Machine S A → ℕ → World S A → World S A
process machine i w = process_entry machine i (next_of machine i (record_of (w.part i))) w

-- Component i takes its last done entry back, and an antimessage for each message that it sent is in flight.
abbrev pub undo_entry : {S A : Type 0} → Machine S A → ℕ → List (Entry A) → World S A → World S A
undo_entry machine i [] w = w
undo_entry machine i (e ∷ es) w = put_back i (back_at machine (e ∷ []) es (record_of (w.part i))) same (sent_by machine i e) w

-- Component i takes its last done entry back: a rollback by one entry. (Jefferson, local control.)
abbrev pub roll_back : {S A : Type 0} → Machine S A → ℕ → World S A → World S A
roll_back machine i w = undo_entry machine i (w.part i).done w

-- A message comes to component j: where it is a straggler, what is later is taken back. (Jefferson, local control.)
abbrev pub deliver_message : {S A : Type 0} → Machine S A → ℕ → Item A → World S A → World S A
deliver_message machine j x w =
    let r = record_of (w.part j) in
    put_back j (message_comes machine x r) (taken_at machine j x) (unsent machine j (back_by_message machine x r)) w

-- An antimessage comes to component j.
abbrev pub deliver_antimessage : {S A : Type 0} → Machine S A → ℕ → Item A → World S A → World S A
deliver_antimessage machine j x w =
    let r = record_of (w.part j) in
    put_back j (antimessage_comes machine x r) same (λ l xs. taken_at machine j x l (unsent machine j (back_by_antimessage machine x r) l xs)) w

-- A message and its antimessage meet in flight and annihilate. (Jefferson, local control.)
abbrev pub meet : {S A : Type 0} → Machine S A → ℕ → Item A → World S A → World S A
meet machine j x w = put_back j (record_of (w.part j)) (taken_at machine j x) (taken_at machine j x) w

-- A message and its antimessage are both in flight to component j.
abbrev pub can_meet : {S A : Type 0} → Machine S A → ℕ → Item A → World S A → Bool
can_meet machine j x w = has machine x (w.part j).plus && has machine x (w.part j).minus

-- Neither component j's next key nor anything in flight to it is below b.
pub record IsPast {S A : Type 0} (machine : Machine S A) (b j : ℕ) (c : Part S A) : Type 0 where
  pub turn : b ≤ machine.key j (number c.first c.done)
  pub pending : AllFrom b c.pending
  pub plus : AllFrom b c.plus
  pub minus : AllFrom b c.minus

-- No next key and no key in flight is below b: global virtual time is at least b.
abbrev pub Past : {S A : Type 0} → Machine S A → ℕ → World S A → Type 0
Past machine b w = (j : ℕ) → IsPast machine b j (w.part j)

-- b is neither behind what is committed nor ahead of global virtual time.
pub record CanCommit {S A : Type 0} (machine : Machine S A) (w : World S A) (b : ℕ) : Type 0 where
  pub not_behind : w.bound ≤ b
  pub not_ahead : Past machine b w

-- The done own turns with keys from g on and below g + d, in the order of keys, the last one first, before the turns ts.
abbrev pub gather : {S A : Type 0} → Machine S A → (ℕ → Part S A) → ℕ → ℕ → List (Turn A) → List (Turn A)
gather machine parts g zero ts = ts
gather machine parts g (suc d) ts = add_turn (g + d) (turn_at (g + d) (parts (machine.owner (g + d))).done) (gather machine parts g d ts)

-- The part whose done entries below b are dropped: its base state is the one after them.
abbrev pub cut : {S A : Type 0} → Machine S A → ℕ → ℕ → Part S A → Part S A
cut machine b j c =
    record {
      base = replay machine j c.base (below b c.done);
      first = number c.first (below b c.done);
      done = from b c.done;
      pending = c.pending;
      owed = c.owed;
      plus = c.plus;
      minus = c.minus;
    }

-- All done own turns below b are appended to the committed list, and the entries below b are dropped.
abbrev pub commit : {S A : Type 0} → Machine S A → ℕ → World S A → World S A
commit machine b w =
    record {
      part = λ j. cut machine b j (w.part j);
      bound = b;
      committed = gather machine w.part w.bound (b - w.bound) w.committed;
    }

-- The turn is done, with a key from the committed bound on and below b.
pub record IsToCommit {S A : Type 0} (machine : Machine S A) (w : World S A) (b : ℕ) (t : Turn A) : Type 0 where
  pub from : w.bound ≤ t.key
  pub below : t.key < b
  pub done : turn_at t.key (w.part (machine.owner t.key)).done ≡ Some t.outcome

-- What a step does. A step that is refused leaves the world.
abbrev pub Happens : {S A : Type 0} → Machine S A → World S A → Step A → World S A → Type 0
Happens machine w (Process i) v = v ≡ process machine i w
Happens machine w (RollBack i) v = v ≡ roll_back machine i w
Happens machine w (DeliverMessage j x) v = v ≡ cond (has machine x (w.part j).plus) (deliver_message machine j x w) w
Happens machine w (DeliverAntimessage j x) v = v ≡ cond (has machine x (w.part j).minus) (deliver_antimessage machine j x w) w
Happens machine w (Meet j x) v = v ≡ cond (can_meet machine j x w) (meet machine j x w) w
Happens machine w (Commit b) v = CanCommit machine w b × (v ≡ commit machine b w) ⊎ (CanCommit machine w b → ⊥) × (v ≡ w)

-- These steps, accepted or refused, lead from w to v.
abbrev pub Reaches : {S A : Type 0} → Machine S A → World S A → List (Step A) → World S A → Type 0
Reaches machine w [] v = v ≡ w
Reaches {S} {A} machine w (s ∷ ss) v = (mid : World S A) × Happens machine w s mid × Reaches machine mid ss v

-- A component at the start.
abbrev pub start_part : {S A : Type 0} → Machine S A → ℕ → Part S A
start_part machine j = record { base = machine.start j; first = 0; done = []; pending = []; owed = []; plus = []; minus = [] }

-- The world at the start: all is empty, and the bound is 0.
abbrev pub start_world : {S A : Type 0} → Machine S A → World S A
start_world machine = record { part = start_part machine; bound = 0; committed = [] }
