-- A window: a bound on the own turns that a lease's record may have done.
use Rattle.std.specs.Prelude.{◌≡◌, ℕ, zero, suc, ◌+◌, ◌-◌, ◌*◌, ◌<◌, ◌≤◌, ◌⊎◌, List, [], ◌∷◌, length}
use Rattle.virtual_time.specs.Machine.{Machine}
use Rattle.virtual_time.specs.Entries.{Entry, Input, Item, Own}
use Rattle.virtual_time.specs.Bags.{sends, times}
use Rattle.virtual_time.specs.Records.{Record}
use Rattle.virtual_time.specs.Exchange.Stubs.{Exchange, Stub}

-- How many own turns are done.
abbrev pub own_turns : {A : Type 0} → List (Entry A) → ℕ
own_turns [] = 0
own_turns (Own k o ∷ es) = suc (own_turns es)
own_turns (Input x ∷ es) = own_turns es

-- How many inputs are done.
abbrev pub inputs_done : {A : Type 0} → List (Entry A) → ℕ
inputs_done [] = 0
inputs_done (Own k o ∷ es) = inputs_done es
inputs_done (Input x ∷ es) = suc (inputs_done es)

-- A record within the window v, of count components: at most v own turns done, and at most v messages of each other component
-- done or pending.
pub record IsWithin {S A : Type 0} (v count : ℕ) (r : Record S A) : Type 0 where
  pub turns : own_turns r.done ≤ v
  pub inputs : inputs_done r.done + length r.pending ≤ v * (count - 1)

-- The entry is no own turn, or there is room for one more in the window.
abbrev pub HasRoom : {S A : Type 0} → ℕ → Record S A → Entry A → Type 0
HasRoom v r (Own k o) = own_turns r.done < v
HasRoom v r (Input x) = Unit {0}

-- A stub within the window: its standing sends are those of so many own turns, and it has taken so many messages.
pub record IsStubWithin {S A : Type 0} (machine : Machine S A) (v count i : ℕ) (st : Stub A) : Type 0 where
  -- the done entries at its last meeting
  pub sent : List (Entry A)
  pub turns : own_turns sent ≤ v
  pub standing : (k : ℕ) (a : A) (j : ℕ) → machine.owner k ≡ i → st.standing k a j ≡ sends machine sent k a j
  -- beyond the components nothing was sent
  pub silent : count ≤ i → (k : ℕ) (a : A) (j : ℕ) → st.standing k a j ≡ 0
  -- the messages taken at its last meeting
  pub took : List (Item A)
  pub few : length took ≤ v * (count - 1)
  pub taken : (k : ℕ) (a : A) → st.taken k a ≡ times machine took k a

-- An exchange within the window: so is each stub, and no inbox has a message and its antimessage.
pub record IsExchangeWithin {S A : Type 0} (machine : Machine S A) (v count : ℕ) (e : Exchange A) : Type 0 where
  pub stubs : (j : ℕ) → IsStubWithin machine v count j (e.stub j)
  pub apart : (j k : ℕ) (a : A) → (times machine (e.stub j).plus k a ≡ 0) ⊎ (times machine (e.stub j).minus k a ≡ 0)

-- How many messages and antimessages the inboxes of the first components hold.
abbrev pub inboxes : {A : Type 0} → Exchange A → ℕ → ℕ
inboxes e zero = 0
inboxes e (suc n) = length (e.stub n).plus + length (e.stub n).minus + inboxes e n
