-- A window where components are held in groups: a bound on the own turns that each record may have done.
use Rattle.std.specs.Prelude.{◌≡◌, ℕ, zero, suc, ◌+◌, ◌*◌, ◌<◌, ◌≤◌, ◌==◌, ◌⊎◌, cond, List, length}
use Rattle.virtual_time.specs.Machine.{Machine}
use Rattle.virtual_time.specs.Entries.{Entry, Item}
use Rattle.virtual_time.specs.Bags.{sends, times}
use Rattle.virtual_time.specs.Exchange.Windows.{own_turns}
use Rattle.virtual_time.specs.Groups.Stubs.{Exchange, Stub, between}

-- The group's components are among the first count.
abbrev pub AreAmong : (ℕ → ℕ) → ℕ → ℕ → Type 0
AreAmong group count g = (i : ℕ) → group i ≡ g → i < count

-- How many of the first components are of other groups than g.
abbrev pub strangers : (ℕ → ℕ) → ℕ → ℕ → ℕ
strangers group zero g = 0
strangers group (suc n) g = cond (group n == g) (strangers group n g) (suc (strangers group n g))

-- How many pairs of a sender and one of the first receivers are of two groups, of count components.
abbrev pub crossings : (ℕ → ℕ) → ℕ → ℕ → ℕ
crossings group count zero = 0
crossings group count (suc n) = strangers group count (group n) + crossings group count n

-- A stub of group g within the window v, of count components: its standing sends are those of so many own turns of each of its
-- components, and each has taken at most v messages of each component of another group.
pub record IsStubWithin {S A : Type 0} (machine : Machine S A) (group : ℕ → ℕ) (v count g : ℕ) (st : Stub A) : Type 0 where
  -- the done entries of its components at its last meeting
  pub sent : ℕ → List (Entry A)
  pub turns : (i : ℕ) → group i ≡ g → own_turns (sent i) ≤ v
  pub standing : (k : ℕ) (a : A) (j : ℕ) → group (machine.owner k) ≡ g → st.standing k a j ≡ between machine group k j (sends machine (sent (machine.owner k)) k a j)
  -- beyond the components nothing was sent
  pub silent : (k : ℕ) (a : A) (j : ℕ) → group (machine.owner k) ≡ g → count ≤ machine.owner k → st.standing k a j ≡ 0
  -- the messages that each had taken at its last meeting
  pub took : ℕ → List (Item A)
  pub few : (i : ℕ) → group i ≡ g → length (took i) ≤ v * strangers group count g
  pub taken : (i k : ℕ) (a : A) → group i ≡ g → st.taken i k a ≡ times machine (took i) k a

-- An exchange within the window: so is each stub, and no inbox has a message and its antimessage.
pub record IsExchangeWithin {S A : Type 0} (machine : Machine S A) (group : ℕ → ℕ) (v count : ℕ) (e : Exchange A) : Type 0 where
  pub stubs : (g : ℕ) → IsStubWithin machine group v count g (e.stub g)
  pub apart : (j k : ℕ) (a : A) → (times machine (e.plus j) k a ≡ 0) ⊎ (times machine (e.minus j) k a ≡ 0)

-- How many messages and antimessages the inboxes of the first components hold.
abbrev pub inboxes : {A : Type 0} → Exchange A → ℕ → ℕ
inboxes e zero = 0
inboxes e (suc n) = length (e.plus n) + length (e.minus n) + inboxes e n
