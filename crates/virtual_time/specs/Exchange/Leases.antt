-- A component that a worker holds, away from the exchange.
use Rattle.std.specs.Prelude.{◌≡◌, ℕ, ◌+◌, ◌<◌, ◌≤◌, ◌==◌, cond, List, [], ◌∷◌}
use Rattle.virtual_time.specs.Worlds.{Commit, DeliverAntimessage, DeliverMessage, IsPast, Meet, Part, Process, RollBack, Step, World, deliver_antimessage, deliver_message, process}
use Rattle.virtual_time.specs.Bags.{AllFrom, inputs, sends, times}
use Rattle.virtual_time.specs.Rules.{IsProper, Outside}
use Rattle.virtual_time.specs.Machine.{Machine}
use Rattle.virtual_time.specs.Exchange.Stubs.{Stub}
use Rattle.virtual_time.specs.Reference.{point, reference_below}
use Rattle.virtual_time.specs.Entries.{Item}
use Rattle.virtual_time.specs.Records.{Record}

-- A lease of component i: its record, with its tray as the flight to it, and its outgoing bag by receivers.
pub record Lease (State Action : Type 0) : Type 0 where
  pub base : ℕ
  pub floor : ℕ
  pub part : Part State Action
  pub out_plus : ℕ → List (Item Action)
  pub out_minus : ℕ → List (Item Action)

-- What each lease has by its type: a proper and grounded record with nothing below its floor but done entries, and an outgoing bag
-- of its own messages, none of them to itself.
pub record IsLease {S A : Type 0} (machine : Machine S A) (i : ℕ) (l : Lease S A) : Type 0 where
  pub end : l.base ≤ machine.top
  pub low : l.base ≤ l.floor
  pub proper : IsProper machine l.base i l.part
  pub first : l.part.first ≡ (point machine l.base).next i
  pub grounded : l.part.base ≡ (point machine l.base).state i
  pub past : IsPast machine l.floor i l.part
  pub owed : AllFrom l.floor l.part.owed
  pub out_plus : (j : ℕ) → AllFrom l.floor (l.out_plus j)
  pub out_minus : (j : ℕ) → AllFrom l.floor (l.out_minus j)
  pub self_plus : l.out_plus i ≡ []
  pub self_minus : l.out_minus i ≡ []
  pub mine_plus : (j k : ℕ) (a : A) → (machine.owner k ≡ i → ⊥) → times machine (l.out_plus j) k a ≡ 0
  pub mine_minus : (j k : ℕ) (a : A) → (machine.owner k ≡ i → ⊥) → times machine (l.out_minus j) k a ≡ 0

-- A lease matches its stub: base, floor, taken messages and standing sends are equal, counted without subtraction.
pub record Matches {S A : Type 0} (machine : Machine S A) (i : ℕ) (st : Stub A) (l : Lease S A) : Type 0 where
  pub base : l.base ≡ st.base
  pub floor : l.floor ≡ st.floor
  pub taken : (k : ℕ) (a : A) → st.taken k a + times machine l.part.owed k a + times machine l.part.minus k a ≡ inputs machine l.part.done k a + times machine l.part.pending k a + times machine l.part.plus k a
  pub standing : (k : ℕ) (a : A) (j : ℕ) → machine.owner k ≡ i → st.standing k a j + times machine (l.out_plus j) k a ≡ sends machine l.part.done k a j + times machine (l.out_minus j) k a

-- b is the least of the next key and of the keys in the tray.
pub record IsFloor {S A : Type 0} (machine : Machine S A) (i b : ℕ) (c : Part S A) : Type 0 where
  pub low : IsPast machine b i c
  pub most : (d : ℕ) → IsPast machine d i c → d ≤ b

-- The lease of component j at the start.
abbrev pub start_lease : {S A : Type 0} → Machine S A → ℕ → Lease S A
start_lease machine j =
    record {
      base = 0;
      floor = machine.key j 0;
      part = record { base = machine.start j; first = 0; done = []; pending = []; owed = []; plus = []; minus = [] };
      out_plus = λ l. [];
      out_minus = λ l. [];
    }

-- The open world of a lease: its component is there with its tray as the flight to it, and its outgoing bag is the flight to others.
abbrev pub alone : {S A : Type 0} → Machine S A → ℕ → Lease S A → World S A
alone machine i l =
    record {
      part = λ j. cond (j == i) l.part (record { base = (point machine l.base).state j; first = (point machine l.base).next j; done = []; pending = []; owed = []; plus = l.out_plus j; minus = l.out_minus j });
      bound = l.base;
      committed = reference_below machine l.base;
    }

-- What passes between a lease that is alone and the others: the taken messages and the standing sends of its stub.
abbrev pub apart : {S A : Type 0} → Machine S A → ℕ → Stub A → Outside A
apart machine i st = record { came = λ j k a. cond (j == i) (st.taken k a) 0; went = λ j k a. cond (machine.owner k == i) (st.standing k a j) 0 }

-- The lease of component i in an open world, with its floor.
abbrev pub lease_of : {S A : Type 0} → ℕ → ℕ → World S A → Lease S A
lease_of i floor v =
    record {
      base = v.bound;
      floor = floor;
      part = v.part i;
      out_plus = λ j. cond (j == i) [] (v.part j).plus;
      out_minus = λ j. cond (j == i) [] (v.part j).minus;
    }

-- These steps are component i's own, and lead from u to v: its entries, and deliveries from its tray.
abbrev pub Does : {S A : Type 0} → Machine S A → ℕ → World S A → List (Step A) → World S A → Type 0
Does machine i u [] v = v ≡ u
Does machine i u (Process j ∷ ss) v = (j ≡ i) × Does machine i (process machine i u) ss v
Does machine i u (DeliverMessage j x ∷ ss) v = (j ≡ i) × (0 < times machine (u.part i).plus x.key x.action) × Does machine i (deliver_message machine i x u) ss v
Does machine i u (DeliverAntimessage j x ∷ ss) v = (j ≡ i) × (0 < times machine (u.part i).minus x.key x.action) × Does machine i (deliver_antimessage machine i x u) ss v
Does machine i u (RollBack j ∷ ss) v = ⊥
Does machine i u (Meet j x ∷ ss) v = ⊥
Does machine i u (Commit b ∷ ss) v = ⊥

-- The lease with this record, and with its tray and its outgoing bag changed by these functions of the receiver.
abbrev pub lease_after : {S A : Type 0} → ℕ → Lease S A → Record S A → (ℕ → List (Item A) → List (Item A)) → (ℕ → List (Item A) → List (Item A)) → Lease S A
lease_after i l r plus minus =
    record {
      base = l.base;
      floor = l.floor;
      part = record { base = r.base; first = r.first; done = r.done; pending = r.pending; owed = r.owed; plus = plus i l.part.plus; minus = minus i l.part.minus };
      out_plus = λ j. cond (j == i) [] (plus j (l.out_plus j));
      out_minus = λ j. cond (j == i) [] (minus j (l.out_minus j));
    }
