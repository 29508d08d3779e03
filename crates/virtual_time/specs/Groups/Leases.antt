-- A group of components that a worker holds, away from the exchange.
use Rattle.std.specs.Prelude.{◌≡◌, ℕ, ◌+◌, ◌<◌, ◌≤◌, ◌==◌, cond, List, [], ◌∷◌}
use Rattle.virtual_time.specs.Worlds.{Commit, DeliverAntimessage, DeliverMessage, IsPast, Meet, Part, Process, RollBack, Step, World, deliver_antimessage, deliver_message, meet, process, put, start_part, with_record}
use Rattle.virtual_time.specs.Bags.{AllFrom, inputs, sends, times}
use Rattle.virtual_time.specs.Rules.{IsProper, Outside}
use Rattle.virtual_time.specs.Machine.{Machine}
use Rattle.virtual_time.specs.Groups.Stubs.{Stub, between, first_key, within}
use Rattle.virtual_time.specs.Reference.{point, reference_below}
use Rattle.virtual_time.specs.Entries.{Item}
use Rattle.virtual_time.specs.Records.{Record}

-- A lease of a group: the parts of its components, each with what is in flight to it, from within the group and from the tray alike,
-- and its outgoing bag by receivers.
pub record Lease (State Action : Type 0) : Type 0 where
  pub base : ℕ
  pub floor : ℕ
  pub part : ℕ → Part State Action
  pub out_plus : ℕ → List (Item Action)
  pub out_minus : ℕ → List (Item Action)

-- What each lease of group g has by its type: of each of its components a proper and grounded record with nothing below its floor but
-- done entries, and an outgoing bag of their messages, none of them to one of themselves.
pub record IsLease {S A : Type 0} (machine : Machine S A) (group : ℕ → ℕ) (g : ℕ) (l : Lease S A) : Type 0 where
  pub end : l.base ≤ machine.top
  pub low : l.base ≤ l.floor
  pub proper : (i : ℕ) → group i ≡ g → IsProper machine l.base i (l.part i)
  pub first : (i : ℕ) → group i ≡ g → (l.part i).first ≡ (point machine l.base).next i
  pub grounded : (i : ℕ) → group i ≡ g → (l.part i).base ≡ (point machine l.base).state i
  pub past : (i : ℕ) → group i ≡ g → IsPast machine l.floor i (l.part i)
  pub owed : (i : ℕ) → group i ≡ g → AllFrom l.floor (l.part i).owed
  pub out_plus : (j : ℕ) → AllFrom l.floor (l.out_plus j)
  pub out_minus : (j : ℕ) → AllFrom l.floor (l.out_minus j)
  pub self_plus : (i : ℕ) → group i ≡ g → l.out_plus i ≡ []
  pub self_minus : (i : ℕ) → group i ≡ g → l.out_minus i ≡ []
  pub mine_plus : (j k : ℕ) (a : A) → (group (machine.owner k) ≡ g → ⊥) → times machine (l.out_plus j) k a ≡ 0
  pub mine_minus : (j k : ℕ) (a : A) → (group (machine.owner k) ≡ g → ⊥) → times machine (l.out_minus j) k a ≡ 0

-- A lease of group g matches its stub: base and floor are equal; what its components have was taken from other groups or sent within;
-- and what they sent to other groups is standing there or in the outgoing bag, counted without subtraction.
pub record Matches {S A : Type 0} (machine : Machine S A) (group : ℕ → ℕ) (g : ℕ) (st : Stub A) (l : Lease S A) : Type 0 where
  pub base : l.base ≡ st.base
  pub floor : l.floor ≡ st.floor
  pub taken : (i k : ℕ) (a : A) → group i ≡ g
      → st.taken i k a + within machine group k i (sends machine (l.part (machine.owner k)).done k a i) + times machine (l.part i).owed k a + times machine (l.part i).minus k a
      ≡ inputs machine (l.part i).done k a + times machine (l.part i).pending k a + times machine (l.part i).plus k a
  pub standing : (k : ℕ) (a : A) (j : ℕ) → group (machine.owner k) ≡ g
      → st.standing k a j + times machine (l.out_plus j) k a ≡ between machine group k j (sends machine (l.part (machine.owner k)).done k a j) + times machine (l.out_minus j) k a

-- b is the least of the next keys of the group's components and of the keys in flight to them, or the end.
pub record IsFloor {S A : Type 0} (machine : Machine S A) (group : ℕ → ℕ) (g b : ℕ) (parts : ℕ → Part S A) : Type 0 where
  pub end : b ≤ machine.top
  pub low : (i : ℕ) → group i ≡ g → IsPast machine b i (parts i)
  pub most : (d : ℕ) → d ≤ machine.top → ((i : ℕ) → group i ≡ g → IsPast machine d i (parts i)) → d ≤ b

-- The lease of group g at the start, of count components.
abbrev pub start_lease : {S A : Type 0} → Machine S A → (ℕ → ℕ) → ℕ → ℕ → Lease S A
start_lease machine group count g = record { base = 0; floor = first_key machine group g count; part = start_part machine; out_plus = λ j. []; out_minus = λ j. [] }

-- The open world of a lease: its components are there with what is in flight to them, and its outgoing bag is the flight to others.
abbrev pub alone : {S A : Type 0} → Machine S A → (ℕ → ℕ) → ℕ → Lease S A → World S A
alone machine group g l =
    record {
      part = λ j. cond (group j == g) (l.part j) (record { base = (point machine l.base).state j; first = (point machine l.base).next j; done = []; pending = []; owed = []; plus = l.out_plus j; minus = l.out_minus j });
      bound = l.base;
      committed = reference_below machine l.base;
    }

-- What passes between a group that is alone and the others: the taken messages and the standing sends of its stub.
abbrev pub apart : {S A : Type 0} → Machine S A → (ℕ → ℕ) → ℕ → Stub A → Outside A
apart machine group g st =
    record { came = λ j k a. cond (group j == g) (st.taken j k a) 0; went = λ j k a. cond (group (machine.owner k) == g) (st.standing k a j) 0 }

-- What the lease of group g is once its open world has become this one.
abbrev pub lease_of : {S A : Type 0} → (ℕ → ℕ) → ℕ → Lease S A → World S A → Lease S A
lease_of group g l v =
    record {
      base = v.bound;
      floor = l.floor;
      part = λ j. cond (group j == g) (v.part j) (l.part j);
      out_plus = λ j. cond (group j == g) [] (v.part j).plus;
      out_minus = λ j. cond (group j == g) [] (v.part j).minus;
    }

-- These steps are those of group g's components, and lead from u to v: their entries, deliveries of what is in flight to them, and
-- meetings there.
abbrev pub Does : {S A : Type 0} → Machine S A → (ℕ → ℕ) → ℕ → World S A → List (Step A) → World S A → Type 0
Does machine group g u [] v = v ≡ u
Does machine group g u (Process i ∷ ss) v = (group i ≡ g) × Does machine group g (process machine i u) ss v
Does machine group g u (DeliverMessage i x ∷ ss) v = (group i ≡ g) × (0 < times machine (u.part i).plus x.key x.action) × Does machine group g (deliver_message machine i x u) ss v
Does machine group g u (DeliverAntimessage i x ∷ ss) v = (group i ≡ g) × (0 < times machine (u.part i).minus x.key x.action) × Does machine group g (deliver_antimessage machine i x u) ss v
Does machine group g u (Meet i x ∷ ss) v =
    (group i ≡ g) × (0 < times machine (u.part i).plus x.key x.action) × (0 < times machine (u.part i).minus x.key x.action) × Does machine group g (meet machine i x u) ss v
Does machine group g u (RollBack i ∷ ss) v = ⊥
Does machine group g u (Commit b ∷ ss) v = ⊥

-- The lease with this record put back at component i, and with what is in flight within the group and its outgoing bag changed by
-- these functions of the receiver.
abbrev pub lease_after : {S A : Type 0} → (ℕ → ℕ) → ℕ → ℕ → Lease S A → Record S A → (ℕ → List (Item A) → List (Item A)) → (ℕ → List (Item A) → List (Item A)) → Lease S A
lease_after group g i l r plus minus =
    record {
      base = l.base;
      floor = l.floor;
      part = λ j. cond (group j == g)
          (let c = put i (with_record (l.part i) r) l.part j in
          record { base = c.base; first = c.first; done = c.done; pending = c.pending; owed = c.owed; plus = plus j c.plus; minus = minus j c.minus })
          (l.part j);
      out_plus = λ j. cond (group j == g) [] (plus j (l.out_plus j));
      out_minus = λ j. cond (group j == g) [] (minus j (l.out_minus j));
    }
