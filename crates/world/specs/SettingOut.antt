-- The steps of there and back, which the world before tells, and what is asked of their replies: the first was done, and memory was there.
use Rattle.std.specs.Prelude.{◌≡◌, ◌==◌, ℕ, ◌++◌, ◌⊎◌, Bool, false, None, Some, List, [], ◌∷◌, length}
use Rattle.virtual_time.specs.Entries.{Entry, Input, Item, Own}
use Rattle.virtual_time.specs.Inverses.{ArePairs, AreSent, Pair, meets_of}
use Rattle.virtual_time.specs.Machine.{Machine}
use Rattle.virtual_time.specs.Records.{Record, back_by_antimessage, back_by_message, next_of}
use Rattle.virtual_time.specs.Replies.{Processed, Refused, Reply}
use Rattle.virtual_time.specs.Worlds.{DeliverAntimessage, DeliverMessage, Meet, Process, RollBack, Step, World, record_of}
use Rattle.world.specs.ThereAndBack.{processings}

-- The step was refused for want of memory. Only processing is.
abbrev pub lacked_memory : {A : Type 0} → Step A → Reply → Bool
lacked_memory (Process i) (Refused n) = n == 1
lacked_memory _ _ = false

-- None of the steps was refused so.
abbrev pub HadMemory : {A : Type 0} → List (Step A) → List Reply → Type 0
HadMemory [] rs = Unit {0}
HadMemory (s ∷ ss) [] = Unit {0}
HadMemory (s ∷ ss) (r ∷ rs) = (lacked_memory s r ≡ false) × HadMemory ss rs

-- With the one replies and with the others the same ones of the steps were refused so.
abbrev pub LackedAlike : {A : Type 0} → List (Step A) → List Reply → List Reply → Type 0
LackedAlike (s ∷ ss) (r ∷ rs) (q ∷ qs) = (lacked_memory s r ≡ lacked_memory s q) × LackedAlike ss rs qs
LackedAlike _ _ _ = Unit {0}

-- The first and the second delivery, then component j processes as often as there are entries in `back`, and all messages that these had
-- sent meet their antimessages, in any order.
pub record AreDoneAgain {S A : Type 0} (machine : Machine S A) (j : ℕ) (first second : Step A) (back : List (Entry A)) (steps : List (Step A)) : Type 0 where
  pub pairs : List (Pair A)
  pub pairs_are : ArePairs machine j back pairs
  pub steps_are : steps ≡ first ∷ second ∷ (processings j (length back) ++ meets_of pairs)

-- A way by which the message x to component j, whose record is r, leaves the flight with its antimessage: they meet; or both are delivered,
-- in either order, and what the first delivery takes back is done again.
abbrev pub IsWay : {S A : Type 0} → Machine S A → ℕ → Item A → Record S A → List (Step A) → Type 0
IsWay machine j x r steps =
    (steps ≡ Meet j x ∷ [])
    ⊎ (AreDoneAgain machine j (DeliverMessage j x) (DeliverAntimessage j x) (back_by_message machine x r) steps
    ⊎ AreDoneAgain machine j (DeliverAntimessage j x) (DeliverMessage j x) (back_by_antimessage machine x r) steps)

-- A way for the message to each of these components, one after the other. Their records are those of the world w.
abbrev pub AreWays : {S A : Type 0} → Machine S A → World S A → Item A → List ℕ → List (Step A) → Type 0
AreWays machine w x [] steps = steps ≡ []
AreWays {S} {A} machine w x (j ∷ js) steps =
    (ss : List (Step A)) × (ts : List (Step A)) × (steps ≡ ss ++ ts) × IsWay machine j x (record_of (w.part j)) ss × AreWays machine w x js ts

-- A way for each message that the entry sent.
abbrev pub AreWaysOf : {S A : Type 0} → Machine S A → World S A → Entry A → List ℕ → List (Step A) → Type 0
AreWaysOf machine w (Own k (Some a)) js steps = AreWays machine w (record { key = k; action = a }) js steps
AreWaysOf machine w (Own k None) js steps = steps ≡ []
AreWaysOf machine w (Input x) js steps = steps ≡ []

-- The steps are: component i does its next entry and takes it back, and each message that the entry sent leaves the flight. The world w before
-- tells them all.
pub record AreThereAndBack {S A : Type 0} (machine : Machine S A) (i : ℕ) (w : World S A) (steps : List (Step A)) : Type 0 where
  pub entry : Entry A
  pub receivers : List ℕ
  pub ways : List (Step A)
  pub next_is : next_of machine i (record_of (w.part i)) ≡ Some entry
  pub sent : AreSent machine i entry receivers
  pub ways_are : AreWaysOf machine w entry receivers ways
  pub steps_are : steps ≡ Process i ∷ RollBack i ∷ ways

-- From the world w component i sets out there and back by these steps: the first was done, and no processing was refused for want of memory.
-- Nothing else is asked of the replies.
pub record SetsOut {S A : Type 0} (machine : Machine S A) (i : ℕ) (w : World S A) (steps : List (Step A)) (replies : List Reply) : Type 0 where
  pub steps_are : AreThereAndBack machine i w steps
  pub first : (k : ℕ) × (rest : List Reply) × (replies ≡ Processed k ∷ rest)
  pub memory : HadMemory steps replies
