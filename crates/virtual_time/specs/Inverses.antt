-- What stands in the inverse: the meetings of all that an entry sent.
use Rattle.std.specs.Prelude.{◌+◌, ◌++◌, ◌≡◌, ℕ, zero, suc, ◌==◌, ◌||◌, Bool, false, cond, None, Some, List, [], ◌∷◌}
use Rattle.virtual_time.specs.Entries.{Entry, Input, Item, Own, entry_key}
use Rattle.virtual_time.specs.Worlds.{Process, process, roll_back, Meet, Step, World, can_meet, meet}
use Rattle.virtual_time.specs.Machine.{Machine}
use Rattle.virtual_time.specs.Replies.{Met, Processed, Reply}
use Rattle.virtual_time.specs.Bags.{IsSorted, hit, times}
use Rattle.virtual_time.specs.Records.{sent_all}

-- j is one of these.
abbrev pub is_in : ℕ → List ℕ → Bool
is_in j [] = false
is_in j (l ∷ ls) = (j == l) || is_in j ls

-- Each stands once.
abbrev pub AreDistinct : List ℕ → Type 0
AreDistinct [] = Unit {0}
AreDistinct (j ∷ js) = (is_in j js ≡ false) × AreDistinct js

-- These components receive the action of i, each once, in any order.
pub record AreReceivers {S A : Type 0} (machine : Machine S A) (i : ℕ) (a : A) (js : List ℕ) : Type 0 where
  pub distinct : AreDistinct js
  pub all : (j : ℕ) → is_in j js ≡ machine.receives i a j

-- The first components that receive the action of i, the last one first.
abbrev pub receivers_of : {S A : Type 0} → Machine S A → ℕ → A → ℕ → List ℕ
receivers_of machine i a zero = []
receivers_of machine i a (suc n) = cond (machine.receives i a n) (n ∷ receivers_of machine i a n) (receivers_of machine i a n)

-- These are the components to which the entry sent, each once, in any order.
abbrev pub AreSent : {S A : Type 0} → Machine S A → ℕ → Entry A → List ℕ → Type 0
AreSent machine i (Own k (Some a)) js = AreReceivers machine i a js
AreSent machine i (Own k None) js = js ≡ []
AreSent machine i (Input x) js = js ≡ []

-- They meet where both are in flight.
abbrev pub try_meet : {S A : Type 0} → Machine S A → ℕ → Item A → World S A → World S A
try_meet machine j x w = cond (can_meet machine j x w) (meet machine j x w) w

-- The message meets its antimessage at each of these components, one after the other.
abbrev pub meets : {S A : Type 0} → Machine S A → List ℕ → Item A → World S A → World S A
meets machine [] x w = w
meets machine (j ∷ js) x w = meets machine js x (try_meet machine j x w)

-- Each message that the entry sent meets its antimessage.
abbrev pub meet_sent : {S A : Type 0} → Machine S A → Entry A → List ℕ → World S A → World S A
meet_sent machine (Own k (Some a)) js w = meets machine js (record { key = k; action = a }) w
meet_sent machine (Own k None) js w = w
meet_sent machine (Input x) js w = w

-- The meetings of a message at these components, as steps.
abbrev pub meetings : {A : Type 0} → Item A → List ℕ → List (Step A)
meetings x [] = []
meetings x (j ∷ js) = Meet j x ∷ meetings x js

-- What they answer.
abbrev pub mets : List ℕ → List Reply
mets [] = []
mets (j ∷ js) = Met ∷ mets js

-- The meetings of all that the entry sent, as steps.
abbrev pub meetings_of : {A : Type 0} → Entry A → List ℕ → List (Step A)
meetings_of (Own k (Some a)) js = meetings (record { key = k; action = a }) js
meetings_of (Own k None) js = []
meetings_of (Input x) js = []

-- What they answer.
abbrev pub all_met : {A : Type 0} → Entry A → List ℕ → List Reply
all_met (Own k (Some a)) js = mets js
all_met (Own k None) js = []
all_met (Input x) js = []

-- The world after component i was rolled back k times.
abbrev pub roll_backs : {S A : Type 0} → Machine S A → ℕ → ℕ → World S A → World S A
roll_backs machine i zero w = w
roll_backs machine i (suc k) w = roll_backs machine i k (roll_back machine i w)

-- From u component i did these entries again, the last one first in the list, each followed by the meetings of what it sent,
-- and that led to v.
abbrev pub Redone : {S A : Type 0} → Machine S A → ℕ → World S A → List (Entry A) → World S A → Type 0
Redone machine i u [] v = v ≡ u
Redone {S} {A} machine i u (e ∷ es) v = (mid : World S A) × (js : List ℕ) × Redone machine i u es mid × AreSent machine i e js × (v ≡ meet_sent machine e js (process machine i mid))

-- Of these entries, the last one first, each with the components to which it sent.
pub record Sending (Action : Type 0) : Type 0 where
  pub entry : Entry Action
  pub receivers : List ℕ

abbrev pub entries_of : {A : Type 0} → List (Sending A) → List (Entry A)
entries_of [] = []
entries_of (s ∷ ss) = s.entry ∷ entries_of ss

-- All are given their receivers, in any order.
abbrev pub AllSent : {S A : Type 0} → Machine S A → ℕ → List (Sending A) → Type 0
AllSent machine i [] = Unit {0}
AllSent machine i (s ∷ ss) = AreSent machine i s.entry s.receivers × AllSent machine i ss

-- Component i does these entries again, as steps: each is processed, and then what it sent meets.
abbrev pub again_steps : {A : Type 0} → ℕ → List (Sending A) → List (Step A)
again_steps i [] = []
again_steps i (s ∷ ss) = again_steps i ss ++ Process i ∷ meetings_of s.entry s.receivers

-- What they answer.
abbrev pub again_replies : {A : Type 0} → List (Sending A) → List Reply
again_replies [] = []
again_replies (s ∷ ss) = again_replies ss ++ Processed (entry_key s.entry) ∷ all_met s.entry s.receivers

-- A message and its antimessage that meet, at a component.
pub record Pair (Action : Type 0) : Type 0 where
  pub to : ℕ
  pub item : Item Action

-- How many of these pairs are of this receiver, key and action.
abbrev pub times_to : {S A : Type 0} → Machine S A → List (Pair A) → ℕ → ℕ → A → ℕ
times_to machine [] j k a = 0
times_to machine (x ∷ xs) j k a = cond (x.to == j) (hit machine x.item k a) 0 + times_to machine xs j k a

-- The meetings of these pairs, as steps.
abbrev pub meets_of : {A : Type 0} → List (Pair A) → List (Step A)
meets_of [] = []
meets_of (x ∷ xs) = Meet x.to x.item ∷ meets_of xs

-- Each of these pairs meets, one after the other.
abbrev pub meet_pairs : {S A : Type 0} → Machine S A → List (Pair A) → World S A → World S A
meet_pairs machine [] w = w
meet_pairs machine (x ∷ xs) w = meet_pairs machine xs (try_meet machine x.to x.item w)

-- The pairs are, in any order, the messages that these entries of component i sent, each with its antimessage.
abbrev pub ArePairs : {S A : Type 0} → Machine S A → ℕ → List (Entry A) → List (Pair A) → Type 0
ArePairs {S} {A} machine i es pairs = (j k : ℕ) (a : A) → times_to machine pairs j k a ≡ times machine (sent_all machine i es j []) k a

-- The world after component i processed k entries.
abbrev pub processes : {S A : Type 0} → Machine S A → ℕ → ℕ → World S A → World S A
processes machine i zero w = w
processes machine i (suc k) w = process machine i (processes machine i k w)

-- What is in flight stands in order.
abbrev pub IsOrdered : {S A : Type 0} → Machine S A → World S A → Type 0
IsOrdered machine w = (j : ℕ) → IsSorted machine (w.part j).plus × IsSorted machine (w.part j).minus
