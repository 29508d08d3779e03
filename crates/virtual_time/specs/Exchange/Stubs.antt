-- What several workers share: for each component a stub.
use Rattle.std.specs.Prelude.{◌≡◌, ℕ, ◌+◌, ◌<◌, ◌≤◌, ◌&&◌, cond, nat_lt, nat_le, Option, None, Some, List, [], length}
use Rattle.virtual_time.specs.Entries.{Entry, Item, number}
use Rattle.virtual_time.specs.Bags.{AllFrom, hit_own, inputs, sends, times}
use Rattle.virtual_time.specs.Machine.{Machine}
use Rattle.virtual_time.specs.Rules.{IsDone}
use Rattle.virtual_time.specs.Reference.{Falls, outcome_at, Turn, point, reference_below, reference_turn}

-- 1 where this turn at key k did the action, else 0.
abbrev pub hit_turn : {S A : Type 0} → Machine S A → ℕ → Option (Option A) → A → ℕ
hit_turn machine k None a = 0
hit_turn machine k (Some o) a = hit_own machine k o k a

-- How often the reference sends the message of this key and action to component j: once or not at all.
abbrev pub reference_sends : {S A : Type 0} → Machine S A → ℕ → A → ℕ → ℕ
reference_sends machine k a j = cond (machine.receives (machine.owner k) a j) (hit_turn machine k (reference_turn machine k) a) 0

-- What the exchange keeps of a component: its base, its floor, the messages that it has taken, its standing sends, and its inbox.
pub record Stub (Action : Type 0) : Type 0 where
  pub base : ℕ
  pub floor : ℕ
  -- key, action
  pub taken : ℕ → Action → ℕ
  -- key, action, receiver
  pub standing : ℕ → Action → ℕ → ℕ
  -- the inbox
  pub plus : List (Item Action)
  pub minus : List (Item Action)

-- The exchange: a stub for each component, the committed bound, the turns taken in and not yet given, and how many were given.
pub record Exchange (Action : Type 0) : Type 0 where
  pub stub : ℕ → Stub Action
  pub bound : ℕ
  -- the turns taken in and not given in a chunk, the last one first
  pub held : List (Turn Action)
  -- how many chunks have given
  pub given : ℕ

-- A run of a stub: done entries from where the simulator stands at the base, with all turns below the floor, the taken inputs and
-- the standing sends.
pub record HasRun {S A : Type 0} (machine : Machine S A) (i : ℕ) (st : Stub A) : Type 0 where
  pub es : List (Entry A)
  pub done : IsDone machine i st.base ((point machine st.base).next i) ((point machine st.base).state i) es
  pub next : st.floor ≤ machine.key i (number ((point machine st.base).next i) es)
  pub ins : (k : ℕ) (a : A) → st.base ≤ k → k < st.floor → inputs machine es k a ≡ st.taken k a
  pub outs : (k : ℕ) (a : A) (j : ℕ) → machine.owner k ≡ i → st.base ≤ k → k < st.floor → sends machine es k a j ≡ st.standing k a j

-- The turns held are the reference's from b on, of each component those below its base; those before b are given. The base of a
-- component that has a turn is not below b, nor is that of one of the first count components.
pub record IsHeld {S A : Type 0} (machine : Machine S A) (count : ℕ) (e : Exchange A) (b : ℕ) : Type 0 where
  pub end : b ≤ machine.top
  pub low : (j : ℕ) → machine.key j 0 < machine.top → b ≤ (e.stub j).base
  pub counted : (j : ℕ) → j < count → b ≤ (e.stub j).base
  pub given : e.given ≡ length (reference_below machine b)
  pub falls : Falls e.held
  pub turns : (k : ℕ) → outcome_at k e.held ≡ cond (nat_le b k && nat_lt k (e.stub (machine.owner k)).base) (reference_turn machine k) None

-- A sound exchange: its bound lies between bases and floors and below all inboxes; what senders have standing is what receivers
-- have taken or will; below the bound both are what the reference sends; each stub has a run; and the turns held are the reference's,
-- given as far as the bases of the first count components allow.
pub record IsSound {S A : Type 0} (machine : Machine S A) (count : ℕ) (e : Exchange A) : Type 0 where
  pub end : e.bound ≤ machine.top
  pub base : (j : ℕ) → (e.stub j).base ≤ e.bound
  pub floor : (j : ℕ) → e.bound ≤ (e.stub j).floor
  pub plus : (j : ℕ) → AllFrom e.bound (e.stub j).plus
  pub minus : (j : ℕ) → AllFrom e.bound (e.stub j).minus
  pub even : (j k : ℕ) (a : A) → e.bound ≤ k → (e.stub (machine.owner k)).standing k a j + times machine (e.stub j).minus k a ≡ (e.stub j).taken k a + times machine (e.stub j).plus k a
  pub settled : (j k : ℕ) (a : A) → (e.stub j).base ≤ k → k < e.bound → (e.stub j).taken k a ≡ reference_sends machine k a j
  pub sent : (j k : ℕ) (a : A) → (e.stub (machine.owner k)).base ≤ k → k < e.bound → (e.stub (machine.owner k)).standing k a j ≡ reference_sends machine k a j
  pub runs : (j : ℕ) → HasRun machine j (e.stub j)
  pub one_taken : (j k : ℕ) (a : A) → (e.stub j).taken k a ≤ 1
  pub one_standing : (j k : ℕ) (a : A) → (e.stub (machine.owner k)).standing k a j ≤ 1
  pub low_taken : (j k : ℕ) (a : A) → k < (e.stub j).base → (e.stub j).taken k a ≡ 0
  pub low_standing : (j k : ℕ) (a : A) → k < (e.stub (machine.owner k)).base → (e.stub (machine.owner k)).standing k a j ≡ 0
  pub held : (b : ℕ) × IsHeld machine count e b

-- A stub at the start: its floor is the key of its first turn.
abbrev pub start_stub : {S A : Type 0} → Machine S A → ℕ → Stub A
start_stub machine j = record { base = 0; floor = machine.key j 0; taken = λ k a. 0; standing = λ k a l. 0; plus = []; minus = [] }

-- The exchange at the start.
abbrev pub start_exchange : {S A : Type 0} → Machine S A → Exchange A
start_exchange machine = record { stub = start_stub machine; bound = 0; held = []; given = 0 }
