-- What the laws of lists of steps say.
use Rattle.std.specs.Prelude.{List, Some, length, true, [], ◌++◌, ◌<◌, ◌∷◌, ◌≡◌, ℕ}
use Rattle.virtual_time.specs.Entries.{Entry, Item, entry_key}
use Rattle.virtual_time.specs.Inverses.{ArePairs, AreSent, Pair, all_met, meetings_of, meets_of}
use Rattle.virtual_time.specs.Machine.{HasCount, Lawful, Machine}
use Rattle.virtual_time.specs.Records.{back_by_antimessage, back_by_message, next_of}
use Rattle.virtual_time.specs.Replies.{Delivered, IsReached, Met, Processed, Reply, RolledBack, Runs}
use Rattle.virtual_time.specs.Worlds.{DeliverAntimessage, DeliverMessage, Meet, Process, RollBack, Step, World, can_meet, meet, record_of}
use Rattle.world.specs.SettingOut.{HadMemory, LackedAlike, SetsOut}
use Rattle.world.specs.ThereAndBack.{AllDone, IsBackAndThere, IsThereAndBack, Leaves, processings}

-- a message and its antimessage are delivered, in one order and in the other
abbrev pub message_then_anti : {A : Type 0} → ℕ → Item A → List (Step A)
message_then_anti j x = DeliverMessage j x ∷ DeliverAntimessage j x ∷ []

abbrev pub anti_then_message : {A : Type 0} → ℕ → Item A → List (Step A)
anti_then_message j x = DeliverAntimessage j x ∷ DeliverMessage j x ∷ []

-- neither delivery took an entry back
abbrev pub none_taken_back : List Reply
none_taken_back = Delivered 0 ∷ Delivered 0 ∷ []

module _ (S A : Type 0) where
  -- there and back is the same world
  abbrev pub BackIsSame : Type 0
  BackIsSame =
      (m : Machine S A) (count i : ℕ) (w v : World S A) (steps : List (Step A)) (replies : List Reply)
      → Lawful m
      → IsReached m count w
      → IsThereAndBack m count i w steps replies v
      → v ≡ w

  -- it can be done by meetings, with these replies, in each world
  abbrev pub MeetingsLeadBack : Type 0
  MeetingsLeadBack =
      (m : Machine S A) (count i : ℕ) (w : World S A) (entry : Entry A) (receivers : List ℕ)
      → Lawful m
      → IsReached m count w
      → i < count
      → next_of m i (record_of (w.part i)) ≡ Some entry
      → AreSent m i entry receivers
      → IsThereAndBack m count i w (Process i ∷ RollBack i ∷ meetings_of entry receivers) (Processed (entry_key entry) ∷ RolledBack (entry_key entry) ∷ all_met entry receivers) w

  -- who sets out comes back: all steps are done
  abbrev pub SettingOutLeadsBack : Type 0
  SettingOutLeadsBack =
      (m : Machine S A) (count i : ℕ) (w v : World S A) (steps : List (Step A)) (replies : List Reply)
      → Lawful m
      → HasCount m count
      → IsReached m count w
      → SetsOut m i w steps replies
      → Runs m count w steps replies v
      → IsThereAndBack m count i w steps replies v

  -- by meetings alone nothing but the first reply is asked
  abbrev pub MeetingsSetOut : Type 0
  MeetingsSetOut =
      (m : Machine S A) (i k : ℕ) (w : World S A) (entry : Entry A) (receivers : List ℕ) (rest : List Reply)
      → next_of m i (record_of (w.part i)) ≡ Some entry
      → AreSent m i entry receivers
      → SetsOut m i w (Process i ∷ RollBack i ∷ meetings_of entry receivers) (Processed k ∷ rest)

  -- runs in which the same steps lacked memory have the same replies and the same end
  abbrev pub RunsAreDetermined : Type 0
  RunsAreDetermined =
      (m : Machine S A) (count : ℕ) (w v u : World S A) (steps : List (Step A)) (replies others : List Reply)
      → Lawful m
      → IsReached m count w
      → LackedAlike steps replies others
      → Runs m count w steps replies v
      → Runs m count w steps others u
      → (replies ≡ others) × (v ≡ u)

  -- so have runs in which none did
  abbrev pub RunsWithMemoryAreOne : Type 0
  RunsWithMemoryAreOne =
      (m : Machine S A) (count : ℕ) (w v u : World S A) (steps : List (Step A)) (replies others : List Reply)
      → Lawful m
      → IsReached m count w
      → HadMemory steps replies
      → HadMemory steps others
      → Runs m count w steps replies v
      → Runs m count w steps others u
      → (replies ≡ others) × (v ≡ u)

  -- what steps reach from a world that is reached is reached
  abbrev pub StepsReach : Type 0
  StepsReach =
      (m : Machine S A) (count : ℕ) (w v : World S A) (steps : List (Step A)) (replies : List Reply)
      → IsReached m count w
      → Runs m count w steps replies v
      → IsReached m count v

  -- a message that left with its antimessage could meet it, and the world is the same as by their meeting
  abbrev pub LeavingIsMeeting : Type 0
  LeavingIsMeeting =
      (m : Machine S A) (count j : ℕ) (x : Item A) (w v : World S A) (steps : List (Step A)) (replies : List Reply)
      → Lawful m
      → IsReached m count w
      → AllDone replies
      → Leaves m count j x w steps replies v
      → (can_meet m j x w ≡ true) × (v ≡ meet m j x w)

  -- two deliveries that take nothing back are a way, the message first
  abbrev pub MessageFirstLeaves : Type 0
  MessageFirstLeaves =
      (m : Machine S A) (count j : ℕ) (x : Item A) (w v : World S A)
      → Runs m count w (message_then_anti j x) none_taken_back v
      → Leaves m count j x w (message_then_anti j x) none_taken_back v

  -- and the antimessage first
  abbrev pub AntimessageFirstLeaves : Type 0
  AntimessageFirstLeaves =
      (m : Machine S A) (count j : ℕ) (x : Item A) (w v : World S A)
      → Runs m count w (anti_then_message j x) none_taken_back v
      → Leaves m count j x w (anti_then_message j x) none_taken_back v

  -- the second of two deliveries takes nothing back, the antimessage
  abbrev pub SecondAntimessageTakesNothing : Type 0
  SecondAntimessageTakesNothing =
      (m : Machine S A) (count k l j : ℕ) (x : Item A) (w v : World S A)
      → Lawful m
      → IsReached m count w
      → Runs m count w (message_then_anti j x) (Delivered k ∷ Delivered l ∷ []) v
      → l ≡ 0

  -- and the message
  abbrev pub SecondMessageTakesNothing : Type 0
  SecondMessageTakesNothing =
      (m : Machine S A) (count k l j : ℕ) (x : Item A) (w v : World S A)
      → Lawful m
      → IsReached m count w
      → Runs m count w (anti_then_message j x) (Delivered k ∷ Delivered l ∷ []) v
      → l ≡ 0

  -- back and there is the same world
  abbrev pub BackAndThereIsSame : Type 0
  BackAndThereIsSame =
      (m : Machine S A) (count i : ℕ) (w v : World S A) (steps : List (Step A)) (replies : List Reply)
      → Lawful m
      → IsReached m count w
      → IsBackAndThere m count i w steps replies v
      → v ≡ w

  -- where both are in flight, their meeting is a way
  abbrev pub MeetingIsAWay : Type 0
  MeetingIsAWay =
      (m : Machine S A) (count j : ℕ) (x : Item A) (w : World S A)
      → can_meet m j x w ≡ true
      → Leaves m count j x w (Meet j x ∷ []) (Met ∷ []) (meet m j x w)

  -- and so are both deliveries, after which as many entries are processed again and all that they had sent meets: the message first
  abbrev pub MessageFirstIsAWay : Type 0
  MessageFirstIsAWay =
      (m : Machine S A) (count j : ℕ) (x : Item A) (pairs : List (Pair A)) (w : World S A)
      → Lawful m
      → IsReached m count w
      → j < count
      → can_meet m j x w ≡ true
      → ArePairs m j (back_by_message m x (record_of (w.part j))) pairs
      → (again : List Reply) × AllDone again
      × Leaves m count j x w
      (DeliverMessage j x ∷ DeliverAntimessage j x ∷ (processings j (length (back_by_message m x (record_of (w.part j)))) ++ meets_of pairs))
      (Delivered (length (back_by_message m x (record_of (w.part j)))) ∷ Delivered 0 ∷ again)
      (meet m j x w)

  -- and the antimessage first
  abbrev pub AntimessageFirstIsAWay : Type 0
  AntimessageFirstIsAWay =
      (m : Machine S A) (count j : ℕ) (x : Item A) (pairs : List (Pair A)) (w : World S A)
      → Lawful m
      → IsReached m count w
      → j < count
      → can_meet m j x w ≡ true
      → ArePairs m j (back_by_antimessage m x (record_of (w.part j))) pairs
      → (again : List Reply) × AllDone again
      × Leaves m count j x w
      (DeliverAntimessage j x ∷ DeliverMessage j x ∷ (processings j (length (back_by_antimessage m x (record_of (w.part j)))) ++ meets_of pairs))
      (Delivered (length (back_by_antimessage m x (record_of (w.part j)))) ∷ Delivered 0 ∷ again)
      (meet m j x w)
