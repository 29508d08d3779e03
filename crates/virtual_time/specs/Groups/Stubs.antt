-- What several workers share where they hold components in groups: for each group a stub, and for each component an inbox.
use Rattle.std.specs.Prelude.{◌≡◌, ℕ, zero, suc, min, ◌+◌, ◌<◌, ◌≤◌, ◌==◌, ◌&&◌, cond, nat_lt, nat_le, None, List, [], length}
use Rattle.virtual_time.specs.Entries.{Entry, Item, number}
use Rattle.virtual_time.specs.Bags.{AllFrom, inputs, sends, times}
use Rattle.virtual_time.specs.Machine.{Machine}
use Rattle.virtual_time.specs.Rules.{IsDone}
use Rattle.virtual_time.specs.Reference.{Falls, outcome_at, Turn, point, reference_below, reference_turn}
use Rattle.virtual_time.specs.Exchange.Stubs.{reference_sends}

-- So many messages of key k to component j, where they pass from one group to another, else none.
abbrev pub between : {S A : Type 0} → Machine S A → (ℕ → ℕ) → ℕ → ℕ → ℕ → ℕ
between machine group k j n = cond (group (machine.owner k) == group j) 0 n

-- So many messages of key k to component j, where they stay within a group, else none.
abbrev pub within : {S A : Type 0} → Machine S A → (ℕ → ℕ) → ℕ → ℕ → ℕ → ℕ
within machine group k j n = cond (group (machine.owner k) == group j) n 0

-- What the exchange keeps of a group: its base, its floor, and, counted, the messages that its components have taken from other
-- groups, and those that they have standing there. What passes within the group it does not hear of.
pub record Stub (Action : Type 0) : Type 0 where
  pub base : ℕ
  pub floor : ℕ
  -- receiver, key, action
  pub taken : ℕ → ℕ → Action → ℕ
  -- key, action, receiver
  pub standing : ℕ → Action → ℕ → ℕ

-- The exchange: a stub for each group, an inbox for each component, the committed bound, the turns taken in and not yet given, and
-- how many were given.
pub record Exchange (Action : Type 0) : Type 0 where
  pub stub : ℕ → Stub Action
  -- the inboxes, by receivers
  pub plus : ℕ → List (Item Action)
  pub minus : ℕ → List (Item Action)
  pub bound : ℕ
  -- the last one first
  pub held : List (Turn Action)
  -- how many chunks have given
  pub given : ℕ

-- A run of a group's stub: for each of its components done entries from where the simulator stands at the base, with all turns below
-- the floor. Their inputs are what was taken from other groups and what is sent within, and what they send out is standing.
pub record HasRun {S A : Type 0} (machine : Machine S A) (group : ℕ → ℕ) (g : ℕ) (st : Stub A) : Type 0 where
  pub es : ℕ → List (Entry A)
  pub done : (i : ℕ) → group i ≡ g → IsDone machine i st.base ((point machine st.base).next i) ((point machine st.base).state i) (es i)
  pub next : (i : ℕ) → group i ≡ g → st.floor ≤ machine.key i (number ((point machine st.base).next i) (es i))
  pub ins : (i k : ℕ) (a : A) → group i ≡ g → st.base ≤ k → k < st.floor
      → inputs machine (es i) k a ≡ st.taken i k a + within machine group k i (sends machine (es (machine.owner k)) k a i)
  pub outs : (k : ℕ) (a : A) (j : ℕ) → group (machine.owner k) ≡ g → st.base ≤ k → k < st.floor
      → between machine group k j (sends machine (es (machine.owner k)) k a j) ≡ st.standing k a j

-- The turns held are the reference's from b on, of each component those below its group's base; those before b are given. The base of
-- a component's group is not below b where the component has a turn, or is one of the first count components.
pub record IsHeld {S A : Type 0} (machine : Machine S A) (group : ℕ → ℕ) (count : ℕ) (e : Exchange A) (b : ℕ) : Type 0 where
  pub end : b ≤ machine.top
  pub low : (j : ℕ) → machine.key j 0 < machine.top → b ≤ (e.stub (group j)).base
  pub counted : (j : ℕ) → j < count → b ≤ (e.stub (group j)).base
  pub given : e.given ≡ length (reference_below machine b)
  pub falls : Falls e.held
  pub turns : (k : ℕ) → outcome_at k e.held ≡ cond (nat_le b k && nat_lt k (e.stub (group (machine.owner k))).base) (reference_turn machine k) None

-- A sound exchange: its bound lies between bases and floors and below all inboxes; what senders have standing is what receivers
-- have taken or will; below the bound both are what the reference sends between groups; each stub has a run; and the turns held are
-- the reference's, given as far as the bases of the first count components allow.
pub record IsSound {S A : Type 0} (machine : Machine S A) (group : ℕ → ℕ) (count : ℕ) (e : Exchange A) : Type 0 where
  pub end : e.bound ≤ machine.top
  pub base : (g : ℕ) → (e.stub g).base ≤ e.bound
  pub floor : (g : ℕ) → e.bound ≤ (e.stub g).floor
  pub plus : (j : ℕ) → AllFrom e.bound (e.plus j)
  pub minus : (j : ℕ) → AllFrom e.bound (e.minus j)
  pub even : (j k : ℕ) (a : A) → e.bound ≤ k
      → (e.stub (group (machine.owner k))).standing k a j + times machine (e.minus j) k a ≡ (e.stub (group j)).taken j k a + times machine (e.plus j) k a
  pub settled : (j k : ℕ) (a : A) → (e.stub (group j)).base ≤ k → k < e.bound → (e.stub (group j)).taken j k a ≡ between machine group k j (reference_sends machine k a j)
  pub sent : (j k : ℕ) (a : A) → (e.stub (group (machine.owner k))).base ≤ k → k < e.bound
      → (e.stub (group (machine.owner k))).standing k a j ≡ between machine group k j (reference_sends machine k a j)
  pub runs : (g : ℕ) → HasRun machine group g (e.stub g)
  pub one_taken : (j k : ℕ) (a : A) → (e.stub (group j)).taken j k a ≤ 1
  pub one_standing : (j k : ℕ) (a : A) → (e.stub (group (machine.owner k))).standing k a j ≤ 1
  pub low_taken : (j k : ℕ) (a : A) → k < (e.stub (group j)).base → (e.stub (group j)).taken j k a ≡ 0
  pub low_standing : (j k : ℕ) (a : A) → k < (e.stub (group (machine.owner k))).base → (e.stub (group (machine.owner k))).standing k a j ≡ 0
  pub held : (b : ℕ) × IsHeld machine group count e b

-- The least key of a first turn in group g, among the first components, or the end.
abbrev pub first_key : {S A : Type 0} → Machine S A → (ℕ → ℕ) → ℕ → ℕ → ℕ
first_key machine group g zero = machine.top
first_key machine group g (suc n) = cond (group n == g) (min (machine.key n 0) (first_key machine group g n)) (first_key machine group g n)

-- A stub at the start, of count components: its floor is the least key of a first turn in the group.
abbrev pub start_stub : {S A : Type 0} → Machine S A → (ℕ → ℕ) → ℕ → ℕ → Stub A
start_stub machine group count g = record { base = 0; floor = first_key machine group g count; taken = λ j k a. 0; standing = λ k a j. 0 }

-- The exchange at the start.
abbrev pub start_exchange : {S A : Type 0} → Machine S A → (ℕ → ℕ) → ℕ → Exchange A
start_exchange machine group count = record { stub = start_stub machine group count; plus = λ j. []; minus = λ j. []; bound = 0; held = []; given = 0 }
