-- Bags of messages: lists in order, and how often they have a message.
use Rattle.std.specs.Prelude.{◌≡◌, ℕ, ◌+◌, ◌≤◌, ◌==◌, ◌&&◌, ◌||◌, Bool, true, cond, nat_lt, Option, None, Some, List, [], ◌∷◌}
use Rattle.virtual_time.specs.Entries.{Entry, Input, Item, Own}
use Rattle.virtual_time.specs.Machine.{Machine}

-- 1 where the message is that of this key and action, else 0.
unfoldable pub hit : {S A : Type 0} → Machine S A → Item A → ℕ → A → ℕ
hit machine x k a = cond ((x.key == k) && machine.same x.action a) 1 0

-- How often the bag has the message of this key and action.
abbrev pub times : {S A : Type 0} → Machine S A → List (Item A) → ℕ → A → ℕ
times machine [] k a = 0
times machine (x ∷ xs) k a = hit machine x k a + times machine xs k a

-- How often the message of this key and action was taken as an input.
abbrev pub inputs : {S A : Type 0} → Machine S A → List (Entry A) → ℕ → A → ℕ
inputs machine [] k a = 0
inputs machine (Own k' o ∷ es) k a = inputs machine es k a
inputs machine (Input x ∷ es) k a = hit machine x k a + inputs machine es k a

-- 1 where the own turn at this key did this action, else 0.
abbrev pub hit_own : {S A : Type 0} → Machine S A → ℕ → Option A → ℕ → A → ℕ
hit_own machine k' None k a = 0
hit_own machine k' (Some a') k a = hit machine (record { key = k'; action = a' }) k a

-- How many own turns did the action at the key.
abbrev pub owns : {S A : Type 0} → Machine S A → List (Entry A) → ℕ → A → ℕ
owns machine [] k a = 0
owns machine (Own k' o ∷ es) k a = hit_own machine k' o k a + owns machine es k a
owns machine (Input x ∷ es) k a = owns machine es k a

-- How often the done turns sent the message of this key and action to component j.
unfoldable pub sends : {S A : Type 0} → Machine S A → List (Entry A) → ℕ → A → ℕ → ℕ
sends machine es k a j = cond (machine.receives (machine.owner k) a j) (owns machine es k a) 0

-- The order of messages: by key, then by action; true also where they are equal.
abbrev pub comes_first : {S A : Type 0} → Machine S A → Item A → Item A → Bool
comes_first machine x y = nat_lt x.key y.key || ((x.key == y.key) && machine.before x.action y.action)

-- The bag with one more message, in its place.
abbrev pub insert : {S A : Type 0} → Machine S A → Item A → List (Item A) → List (Item A)
insert machine x [] = x ∷ []
insert machine x (y ∷ ys) = cond (comes_first machine x y) (x ∷ y ∷ ys) (y ∷ insert machine x ys)

-- The messages are equal.
abbrev pub same_item : {S A : Type 0} → Machine S A → Item A → Item A → Bool
same_item machine x y = (x.key == y.key) && machine.same x.action y.action

-- The bag with one equal message less, if it has one.
abbrev pub remove : {S A : Type 0} → Machine S A → Item A → List (Item A) → List (Item A)
remove machine x [] = []
remove machine x (y ∷ ys) = cond (same_item machine y x) ys (y ∷ remove machine x ys)

-- The bag has the message.
abbrev pub has : {S A : Type 0} → Machine S A → Item A → List (Item A) → Bool
has machine x xs = nat_lt 0 (times machine xs x.key x.action)

-- P holds of each message.
abbrev pub Each : {A : Type 0} → (Item A → Type 0) → List (Item A) → Type 0
Each P [] = Unit {0}
Each P (x ∷ xs) = P x × Each P xs

-- No message has a key below b.
abbrev pub AllFrom : {A : Type 0} → ℕ → List (Item A) → Type 0
AllFrom b xs = Each (λ x. b ≤ x.key) xs

-- The messages stand in order.
abbrev pub IsSorted : {S A : Type 0} → Machine S A → List (Item A) → Type 0
IsSorted machine [] = Unit {0}
IsSorted machine (x ∷ xs) = Each (λ y. comes_first machine x y ≡ true) xs × IsSorted machine xs
