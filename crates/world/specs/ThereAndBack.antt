-- There and back: a component does its next entry and takes it back, and each message that the entry sent leaves the flight with its antimessage.
use Rattle.std.specs.Prelude.{◌≡◌, ℕ, zero, suc, ◌+◌, ◌++◌, ◌⊎◌, None, Some, List, [], ◌∷◌, length}
use Rattle.virtual_time.specs.Entries.{Entry, Input, Item, Own}
use Rattle.virtual_time.specs.Inverses.{ArePairs, AreSent, Pair, meets_of}
use Rattle.virtual_time.specs.Machine.{Machine}
use Rattle.virtual_time.specs.Records.{Record, back_by_antimessage, back_by_message, next_of}
use Rattle.virtual_time.specs.Replies.{Committed, Delivered, Met, Processed, Refused, Reply, RolledBack, Runs}
use Rattle.virtual_time.specs.Worlds.{DeliverAntimessage, DeliverMessage, Meet, Process, RollBack, Step, World, record_of}

-- The step was done, not refused.
abbrev pub WasDone : Reply → Type 0
WasDone (Processed k) = Unit {0}
WasDone (Delivered k) = Unit {0}
WasDone Met = Unit {0}
WasDone (RolledBack k) = Unit {0}
WasDone (Committed k) = Unit {0}
WasDone (Refused n) = ⊥

-- None of the steps was refused.
abbrev pub AllDone : List Reply → Type 0
AllDone [] = Unit {0}
AllDone (r ∷ rs) = WasDone r × AllDone rs

-- The component processes k times, as steps.
abbrev pub processings : {A : Type 0} → ℕ → ℕ → List (Step A)
processings j zero = []
processings j (suc k) = Process j ∷ processings j k

-- The component rolls back k times, as steps.
abbrev pub rollings : {A : Type 0} → ℕ → ℕ → List (Step A)
rollings j zero = []
rollings j (suc k) = RollBack j ∷ rollings j k

-- The first and the second delivery take k + l entries of component j back; it processes as often, and all messages that these entries
-- had sent meet their antimessages, in any order. `back` are the entries that the first delivery takes back.
pub record IsDoneAgain {S A : Type 0} (machine : Machine S A) (j : ℕ) (first second : Step A) (back : List (Entry A)) (steps : List (Step A)) (replies : List Reply) : Type 0 where
  pub k : ℕ
  pub l : ℕ
  pub pairs : List (Pair A)
  pub again : List Reply
  pub steps_are : steps ≡ first ∷ second ∷ (processings j (k + l) ++ meets_of pairs)
  pub replies_are : replies ≡ Delivered k ∷ Delivered l ∷ again
  pub pairs_are : ArePairs machine j back pairs

-- By these steps the message x to component j leaves the flight with its antimessage: they meet; or the message is delivered and then
-- the antimessage, or the antimessage and then the message, and what was taken back is done again.
abbrev pub IsWayOut : {S A : Type 0} → Machine S A → ℕ → Item A → Record S A → List (Step A) → List Reply → Type 0
IsWayOut machine j x r steps replies =
    (steps ≡ Meet j x ∷ [])
    ⊎ (IsDoneAgain machine j (DeliverMessage j x) (DeliverAntimessage j x) (back_by_message machine x r) steps replies
    ⊎ IsDoneAgain machine j (DeliverAntimessage j x) (DeliverMessage j x) (back_by_antimessage machine x r) steps replies)

-- These steps lead from w to v, and by them the message leaves the flight with its antimessage.
pub record Leaves {S A : Type 0} (machine : Machine S A) (count j : ℕ) (x : Item A) (w : World S A) (steps : List (Step A)) (replies : List Reply) (v : World S A) : Type 0 where
  pub way : IsWayOut machine j x (record_of (w.part j)) steps replies
  pub run : Runs machine count w steps replies v

-- From w to v the message leaves the flight to each of these components, one after the other.
abbrev pub AllLeave : {S A : Type 0} → Machine S A → ℕ → Item A → List ℕ → World S A → List (Step A) → List Reply → World S A → Type 0
AllLeave machine count x [] w steps replies v = (steps ≡ []) × (replies ≡ []) × (v ≡ w)
AllLeave {S} {A} machine count x (j ∷ js) w steps replies v =
    (mid : World S A) × (ss : List (Step A)) × (ts : List (Step A)) × (ps : List Reply) × (qs : List Reply)
    × (steps ≡ ss ++ ts) × (replies ≡ ps ++ qs) × Leaves machine count j x w ss ps mid × AllLeave machine count x js mid ts qs v

-- From w to v each message that the entry sent leaves the flight.
abbrev pub SentLeave : {S A : Type 0} → Machine S A → ℕ → Entry A → List ℕ → World S A → List (Step A) → List Reply → World S A → Type 0
SentLeave machine count (Own k (Some a)) js w steps replies v = AllLeave machine count (record { key = k; action = a }) js w steps replies v
SentLeave machine count (Own k None) js w steps replies v = (steps ≡ []) × (replies ≡ []) × (v ≡ w)
SentLeave machine count (Input x) js w steps replies v = (steps ≡ []) × (replies ≡ []) × (v ≡ w)

-- These steps, all done, lead from w to v: component i does its next entry and takes it back, and each message that the entry sent leaves
-- the flight.
pub record IsThereAndBack {S A : Type 0} (machine : Machine S A) (count i : ℕ) (w : World S A) (steps : List (Step A)) (replies : List Reply) (v : World S A) : Type 0 where
  pub entry : Entry A
  pub receivers : List ℕ
  pub there : Reply
  pub back : Reply
  -- the world after the roll-back, and the steps from there on
  pub turned : World S A
  pub rest : List (Step A)
  pub rest_replies : List Reply
  pub next_is : next_of machine i (record_of (w.part i)) ≡ Some entry
  pub sent : AreSent machine i entry receivers
  pub steps_are : steps ≡ Process i ∷ RollBack i ∷ rest
  pub replies_are : replies ≡ there ∷ back ∷ rest_replies
  pub run : Runs machine count w (Process i ∷ RollBack i ∷ []) (there ∷ back ∷ []) turned
  pub leave : SentLeave machine count entry receivers turned rest rest_replies v
  pub done : AllDone replies

-- These steps, all done, lead from w to v: component i rolls its last entries back, processes as often, and all messages that these entries
-- had sent meet their antimessages, in any order.
pub record IsBackAndThere {S A : Type 0} (machine : Machine S A) (count i : ℕ) (w : World S A) (steps : List (Step A)) (replies : List Reply) (v : World S A) : Type 0 where
  -- the entries taken back, the last one first, and those that stay
  pub entries : List (Entry A)
  pub rest : List (Entry A)
  pub pairs : List (Pair A)
  pub done_are : (w.part i).done ≡ entries ++ rest
  pub pairs_are : ArePairs machine i entries pairs
  pub steps_are : steps ≡ rollings i (length entries) ++ (processings i (length entries) ++ meets_of pairs)
  pub run : Runs machine count w steps replies v
  pub done : AllDone replies
