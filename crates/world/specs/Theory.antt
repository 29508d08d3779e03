-- The theory of virtual time, as far as it is cited here: each field is a clause of one of its laws.
use Rattle.std.specs.Prelude.{◌≡◌, ℕ, ◌+◌, ◌<◌, ◌≤◌, ◌++◌, true, Some, List, [], ◌∷◌, length}
use Rattle.virtual_time.specs.Bags.{times}
use Rattle.virtual_time.specs.Entries.{Entry, Item, entry_key}
use Rattle.virtual_time.specs.Inverses.{ArePairs, AreSent, IsOrdered, Pair, all_met, meet_pairs, meet_sent, meetings_of, processes, roll_backs}
use Rattle.virtual_time.specs.Machine.{Lawful, Machine}
use Rattle.virtual_time.specs.Records.{back_by_antimessage, back_by_message, next_of, sent_all, unsent}
use Rattle.virtual_time.specs.Replies.{Delivered, IsReached, IsVirtualTime, Processed, RolledBack, Runs}
use Rattle.virtual_time.specs.Rules.{IsWorld}
use Rattle.virtual_time.specs.Worlds.{DeliverAntimessage, DeliverMessage, Process, RollBack, World, can_meet, deliver_antimessage, deliver_message, meet, process, record_of, roll_back}

pub record Theory (S A : Type 0) : Type 0 where
  pub sound : (machine : Machine S A) (count : ℕ) (w : World S A) → Lawful machine → IsReached machine count w → IsWorld machine w
  pub ordered : (machine : Machine S A) (count : ℕ) (w : World S A) → Lawful machine → IsReached machine count w → IsOrdered machine w
  pub back : (machine : Machine S A) (w : World S A) (i : ℕ) (e : Entry A) (js : List ℕ) → Lawful machine → IsWorld machine w → next_of machine i (record_of (w.part i)) ≡ Some e → AreSent machine i e js
      → meet_sent machine e js (roll_back machine i (process machine i w)) ≡ w
  pub message_back : (machine : Machine S A) (count k l : ℕ) (w v : World S A) (j : ℕ) (x : Item A) → Lawful machine → IsWorld machine w
      → Runs machine count w (DeliverMessage j x ∷ DeliverAntimessage j x ∷ []) (Delivered k ∷ Delivered l ∷ []) v → v ≡ meet machine j x (roll_backs machine j k w)
  pub antimessage_back : (machine : Machine S A) (count k l : ℕ) (w v : World S A) (j : ℕ) (x : Item A) → Lawful machine → IsWorld machine w
      → Runs machine count w (DeliverAntimessage j x ∷ DeliverMessage j x ∷ []) (Delivered k ∷ Delivered l ∷ []) v → v ≡ meet machine j x (roll_backs machine j k w)
  pub message_first : (machine : Machine S A) (j : ℕ) (x : Item A) (pairs : List (Pair A)) (w : World S A) → Lawful machine → IsWorld machine w → IsOrdered machine w → can_meet machine j x w ≡ true
      → ArePairs machine j (back_by_message machine x (record_of (w.part j))) pairs
      → meet_pairs machine pairs (processes machine j (length (back_by_message machine x (record_of (w.part j)))) (deliver_antimessage machine j x (deliver_message machine j x w))) ≡ meet machine j x w
  pub antimessage_first : (machine : Machine S A) (j : ℕ) (x : Item A) (pairs : List (Pair A)) (w : World S A) → Lawful machine → IsWorld machine w → IsOrdered machine w → can_meet machine j x w ≡ true
      → ArePairs machine j (back_by_antimessage machine x (record_of (w.part j))) pairs
      → meet_pairs machine pairs (processes machine j (length (back_by_antimessage machine x (record_of (w.part j)))) (deliver_message machine j x (deliver_antimessage machine j x w))) ≡ meet machine j x w
  pub rolled_back : (machine : Machine S A) (i : ℕ) (es rest : List (Entry A)) (pairs : List (Pair A)) (w : World S A) → Lawful machine → IsWorld machine w → IsOrdered machine w → (w.part i).done ≡ es ++ rest
      → ArePairs machine i es pairs → meet_pairs machine pairs (processes machine i (length es) (roll_backs machine i (length es) w)) ≡ w
  pub met : (machine : Machine S A) (count : ℕ) (w : World S A) (i : ℕ) (e : Entry A) (js : List ℕ) → Lawful machine → IsWorld machine w → i < count → next_of machine i (record_of (w.part i)) ≡ Some e → AreSent machine i e js
      → Runs machine count w (Process i ∷ RollBack i ∷ meetings_of e js) (Processed (entry_key e) ∷ RolledBack (entry_key e) ∷ all_met e js) w
  pub signs : (machine : Machine S A) (i : ℕ) (es : List (Entry A)) (j k : ℕ) (a : A) (xs ys : List (Item A)) → Lawful machine
      → times machine (sent_all machine i es j xs) k a + times machine ys k a ≡ times machine (unsent machine i es j ys) k a + times machine xs k a
  pub one : (machine : Machine S A) (w : World S A) (g h : ℕ) → Lawful machine → IsVirtualTime machine w g → IsVirtualTime machine w h → g ≡ h
  pub bounded : (machine : Machine S A) (w : World S A) (g : ℕ) → Lawful machine → IsWorld machine w → IsVirtualTime machine w g → w.bound ≤ g
