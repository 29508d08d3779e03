-- What holds of each world that the start reaches.
use Rattle.std.specs.Prelude.{◌≡◌, ℕ, ◌+◌, ◌<◌, ◌≤◌, ◌⊎◌, true, List, [], ◌∷◌}
use Rattle.virtual_time.specs.Entries.{Entry, Input, Item, Own, latest, number, replay}
use Rattle.virtual_time.specs.Bags.{AllFrom, Each, IsSorted, comes_first, inputs, sends, times}
use Rattle.virtual_time.specs.Worlds.{Commit, DeliverAntimessage, DeliverMessage, Meet, Part, Process, RollBack, Step, World}
use Rattle.virtual_time.specs.Reference.{IsReference, after}
use Rattle.virtual_time.specs.Machine.{Machine}

-- An input that is not before the last of these done entries.
abbrev pub MayFollow : {S A : Type 0} → Machine S A → ℕ → List (Entry A) → Item A → Type 0
MayFollow machine g [] y = g ≤ y.key
MayFollow machine g (Own k o ∷ es) y = k ≤ y.key
MayFollow machine g (Input x ∷ es) y = comes_first machine x y ≡ true

-- the done entries of component i, whose first turn after the base is n and whose base state is s: all its turns, each
-- with the outcome of the state before it, in the order of keys
abbrev pub IsDone : {S A : Type 0} → Machine S A → ℕ → ℕ → ℕ → S → List (Entry A) → Type 0
IsDone machine i g n s [] = g ≤ machine.key i n
IsDone machine i g n s (Own k o ∷ es) =
    (k ≡ machine.key i (number n es)) × (k < machine.top) × (o ≡ machine.outcome i (number n es) (replay machine i s es)) × (latest g es ≤ k) × IsDone machine i g n s es
IsDone machine i g n s (Input x ∷ es) =
    (x.key < machine.key i (number n es)) × (latest g es ≤ x.key) × IsDone machine i g n s es × MayFollow machine g es x

-- A proper record at bound g: its done entries are as above, no pending input is before the last of them, all is in order and nothing
-- in flight is below g, and no message is owed while an equal one is pending or done.
pub record IsProper {S A : Type 0} (machine : Machine S A) (g i : ℕ) (c : Part S A) : Type 0 where
  pub done : IsDone machine i g c.first c.base c.done
  pub pending : Each (MayFollow machine g c.done) c.pending
  pub sorted : IsSorted machine c.pending
  pub owed_sorted : IsSorted machine c.owed
  pub plus : AllFrom g c.plus
  pub minus : AllFrom g c.minus
  pub owed : (k : ℕ) (a : A) → (times machine c.owed k a ≡ 0) ⊎ (times machine c.pending k a + inputs machine c.done k a ≡ 0)

-- What passes between the components of a world and others: counts of receiver, key and action.
pub record Outside (Action : Type 0) : Type 0 where
  -- taken, and sent by none of them
  pub came : ℕ → ℕ → Action → ℕ
  -- sent, and not to be found among them any more
  pub went : ℕ → ℕ → Action → ℕ

-- Nothing passes: the world is whole.
abbrev pub nothing : {A : Type 0} → Outside A
nothing = record { came = λ j k a. 0; went = λ j k a. 0 }

-- For each message at or above the bound: sends done, owed, and antimessages in flight are as many as inputs done, pending, and
-- messages in flight; what comes from outside and goes there is counted too.
abbrev pub Balance : {S A : Type 0} → Machine S A → Outside A → ℕ → (ℕ → Part S A) → Type 0
Balance {S} {A} machine off g parts =
    (j k : ℕ) (a : A) → g ≤ k
    → sends machine (parts (machine.owner k)).done k a j + times machine (parts j).owed k a + times machine (parts j).minus k a + off.came j k a
    ≡ inputs machine (parts j).done k a + times machine (parts j).pending k a + times machine (parts j).plus k a + off.went j k a

-- A world, open to the outside: proper and grounded records, in balance, and the committed list is the reference below the bound.
pub record IsOpen {S A : Type 0} (machine : Machine S A) (off : Outside A) (w : World S A) : Type 0 where
  pub proper : (j : ℕ) → IsProper machine w.bound j (w.part j)
  pub balance : Balance machine off w.bound w.part
  pub reference : IsReference machine w.bound w.committed
  pub next : (j : ℕ) → (w.part j).first ≡ (after machine w.committed).next j
  pub grounded : (j : ℕ) → (w.part j).base ≡ (after machine w.committed).state j

-- A world: nothing comes from outside.
abbrev pub IsWorld : {S A : Type 0} → Machine S A → World S A → Type 0
IsWorld machine w = IsOpen machine nothing w

-- The step is a roll-back.
abbrev pub IsRollBack : {A : Type 0} → Step A → Type 0
IsRollBack (RollBack i) = Unit {0}
IsRollBack (Process i) = ⊥
IsRollBack (DeliverMessage j x) = ⊥
IsRollBack (DeliverAntimessage j x) = ⊥
IsRollBack (Meet j x) = ⊥
IsRollBack (Commit c) = ⊥
