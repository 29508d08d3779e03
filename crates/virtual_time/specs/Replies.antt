-- What each step answers, and lists of steps with their replies.
use Rattle.std.specs.Prelude.{◌≡◌, ℕ, zero, suc, min, ◌+◌, ◌<◌, ◌≤◌, ◌⊎◌, true, false, None, Some, List, [], ◌∷◌, length}
use Rattle.virtual_time.specs.Machine.{Machine}
use Rattle.virtual_time.specs.Entries.{Entry, Item, entry_key, number}
use Rattle.virtual_time.specs.Bags.{has}
use Rattle.virtual_time.specs.Records.{next_of, back_by_message, back_by_antimessage}
use Rattle.virtual_time.specs.Worlds.{Part, World, Step, Process, RollBack, DeliverMessage, DeliverAntimessage, Meet, Commit, Past, record_of, process, roll_back, deliver_message, deliver_antimessage, meet, can_meet, commit, start_world}

-- What a step answers: keys are ranks, the numbers are entries taken back and turns appended.
pub data Reply : Type 0 where
  Processed : ℕ → Reply
  Delivered : ℕ → Reply
  Met : Reply
  RolledBack : ℕ → Reply
  Committed : ℕ → Reply
  -- with the number of the refusal
  Refused : ℕ → Reply

-- One of these messages has the key.
abbrev pub HasKey : {A : Type 0} → ℕ → List (Item A) → Type 0
HasKey g [] = ⊥
HasKey g (x ∷ xs) = (x.key ≡ g) ⊎ HasKey g xs

-- The key of component j's next turn, of a pending input, or of something in flight to it, is g.
abbrev pub IsAt : {S A : Type 0} → Machine S A → ℕ → ℕ → Part S A → Type 0
IsAt machine g j c = (machine.key j (number c.first c.done) ≡ g) ⊎ (HasKey g c.pending ⊎ (HasKey g c.plus ⊎ HasKey g c.minus))

-- Global virtual time: the least of all next keys and of all keys in flight, or the end. (Jefferson, global control.)
pub record IsVirtualTime {S A : Type 0} (machine : Machine S A) (w : World S A) (g : ℕ) : Type 0 where
  -- no such key is less
  pub least : Past machine g w
  -- one such key is it, or it is the end
  pub reached : (g ≡ machine.top) ⊎ ((j : ℕ) × IsAt machine g j (w.part j))

-- A refused step leaves the world.
pub record Refuses {S A : Type 0} (refusal : ℕ) (w : World S A) (reply : Reply) (v : World S A) : Type 0 where
  pub reply_is : reply ≡ Refused refusal
  pub stays : v ≡ w

-- What a step answers, and where it leads, in a world of `count` components. Refusals: 1 no memory, 30 no such component,
-- 31 nothing pending, 32 no such message, 33 nothing to roll back, 34 ahead of global virtual time, 35 behind the commit.
abbrev pub Answers : {S A : Type 0} → Machine S A → ℕ → World S A → Step A → Reply → World S A → Type 0
Answers {S} {A} machine count w (Process i) reply v =
    (count ≤ i) × Refuses 30 w reply v
    ⊎ ((i < count) × (next_of machine i (record_of (w.part i)) ≡ None) × Refuses 31 w reply v
    ⊎ ((e : Entry A) × (i < count) × (next_of machine i (record_of (w.part i)) ≡ Some e)
    × (Refuses 1 w reply v ⊎ (reply ≡ Processed (entry_key e)) × (v ≡ process machine i w))))
Answers {S} {A} machine count w (RollBack i) reply v =
    (count ≤ i) × Refuses 30 w reply v
    ⊎ ((i < count) × ((w.part i).done ≡ []) × Refuses 33 w reply v
    ⊎ ((e : Entry A) × (es : List (Entry A)) × (i < count) × ((w.part i).done ≡ e ∷ es) × (reply ≡ RolledBack (entry_key e)) × (v ≡ roll_back machine i w)))
Answers machine count w (DeliverMessage j x) reply v =
    (has machine x (w.part j).plus ≡ false) × Refuses 32 w reply v
    ⊎ (has machine x (w.part j).plus ≡ true) × (reply ≡ Delivered (length (back_by_message machine x (record_of (w.part j))))) × (v ≡ deliver_message machine j x w)
Answers machine count w (DeliverAntimessage j x) reply v =
    (has machine x (w.part j).minus ≡ false) × Refuses 32 w reply v
    ⊎ (has machine x (w.part j).minus ≡ true) × (reply ≡ Delivered (length (back_by_antimessage machine x (record_of (w.part j))))) × (v ≡ deliver_antimessage machine j x w)
Answers machine count w (Meet j x) reply v =
    (can_meet machine j x w ≡ false) × Refuses 32 w reply v
    ⊎ (can_meet machine j x w ≡ true) × (reply ≡ Met) × (v ≡ meet machine j x w)
Answers machine count w (Commit b) reply v =
    (b < w.bound) × Refuses 35 w reply v
    ⊎ (((g : ℕ) × IsVirtualTime machine w g × (g < b) × Refuses 34 w reply v)
    ⊎ ((g : ℕ) × (k : ℕ) × IsVirtualTime machine w g × (w.bound ≤ b) × (b ≤ g) × (reply ≡ Committed k) × (length (commit machine b w).committed ≡ k + length w.committed) × (v ≡ commit machine b w)))

-- These steps, with these replies, lead from w to v.
abbrev pub Runs : {S A : Type 0} → Machine S A → ℕ → World S A → List (Step A) → List Reply → World S A → Type 0
Runs machine count w [] [] v = v ≡ w
Runs machine count w [] (r ∷ rs) v = ⊥
Runs machine count w (s ∷ ss) [] v = ⊥
Runs {S} {A} machine count w (s ∷ ss) (r ∷ rs) v = (mid : World S A) × Answers machine count w s r mid × Runs machine count mid ss rs v

-- A world that steps reach from the start.
pub record IsReached {S A : Type 0} (machine : Machine S A) (count : ℕ) (w : World S A) : Type 0 where
  pub steps : List (Step A)
  pub replies : List Reply
  pub run : Runs machine count (start_world machine) steps replies w

-- Every next is the end, and nothing is in flight.
pub record IsAtRest {S A : Type 0} (machine : Machine S A) (w : World S A) : Type 0 where
  pub next : (j : ℕ) → next_of machine j (record_of (w.part j)) ≡ None
  pub plus : (j : ℕ) → (w.part j).plus ≡ []
  pub minus : (j : ℕ) → (w.part j).minus ≡ []

-- The least of g and the keys of these messages.
abbrev pub least_key : {A : Type 0} → List (Item A) → ℕ → ℕ
least_key [] g = g
least_key (x ∷ xs) g = min x.key (least_key xs g)

-- The least of g, the key of component j's next turn, and the keys that are pending there or in flight to it.
abbrev pub least_at : {S A : Type 0} → Machine S A → ℕ → Part S A → ℕ → ℕ
least_at machine j c g = min (machine.key j (number c.first c.done)) (least_key c.pending (least_key c.plus (least_key c.minus g)))

-- Global virtual time of the first components.
abbrev pub virtual_time : {S A : Type 0} → Machine S A → ℕ → World S A → ℕ
virtual_time machine zero w = machine.top
virtual_time machine (suc n) w = least_at machine n (w.part n) (virtual_time machine n w)
