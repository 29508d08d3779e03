-- The rule of the board: the item is in one place, and who has it changes no section but those of its own pass.
use Rattle.std.specs.Prelude.{◌≡◌, ℕ, suc, ◌+◌, ◌≤◌, Bool, true, false, ◌==◌, List, [], ◌∷◌, length, map, get_or, slice_get, All, Option, Some, None, is_some}
use mathlib.Core.Option.{some}
use lib.ListN.{get_elem?}
use Rattle.boards.specs.declared.rule.Section.{Section}
use Rattle.boards.specs.declared.rule.Sight.{Sight}

abbrev pub section_of : {P : Type 0} → ℕ → P → Section P
section_of number content = record { number = number; content = content }

abbrev pub seeing : {K P : Type 0} → Bool → Option K → List (Section P) → Option (List P) → Sight K P
seeing is_new kind own taken = record { is_new = is_new; kind = kind; own = own; taken = taken }

-- 1 where it is so, and else 0
abbrev pub one : Bool → ℕ
one true = 1
one false = 0

-- how often x stands in the list
abbrev pub times : ℕ → List ℕ → ℕ
times x [] = 0
times x (y ∷ ys) = one (y == x) + times x ys

-- f of each view, added up
abbrev pub total : {V : Type 0} → (V → ℕ) → List V → ℕ
total f [] = 0
total f (v ∷ vs) = f v + total f vs

-- all sections of a list, the first with the number n
abbrev pub numbered : {P : Type 0} → ℕ → List P → List (Section P)
numbered n [] = []
numbered n (x ∷ xs) = section_of n x ∷ numbered (suc n) xs

-- the same sections, with what they have among xs
abbrev pub refreshed : {P : Type 0} → List P → List (Section P) → List (Section P)
refreshed xs [] = []
refreshed xs (s ∷ own) = section_of s.number (get_or xs s.number s.content) ∷ refreshed xs own

module _ {P : Type 0} where
  abbrev pub numbers : List (Section P) → List ℕ
  numbers own = map (λ (s : Section P). s.number) own

  -- it is one of xs
  abbrev pub Stands : List P → Section P → Type 0
  Stands xs s = slice_get xs s.number ≡ Some s.content

module _ {K P : Type 0} where
  -- 1 where the item is out with the pass, and else 0
  abbrev pub away : Sight K P → ℕ
  away v = one (is_some v.taken)

  -- how often the pass has the section n
  abbrev pub owned : ℕ → Sight K P → ℕ
  owned n v = times n (numbers v.own)

  -- what the passes left stands there
  abbrev pub StandFor : List (Sight K P) → List P → Type 0
  StandFor views xs = (pass : ℕ) (v : Sight K P) → get_elem? views pass ≡ some v → All (Stands xs) v.own

  -- nothing has come yet: no item, and no other pass
  abbrev pub IsFirst : {L : Type 0} → List L → List (Sight K P) → Sight K P → Type 0
  IsFirst items views v = (length views ≡ 1) × (items ≡ []) × (v.own ≡ []) × (v.taken ≡ None)

-- what is so at each moment, whatever the threads did: of the item, if the queue has it, and of the views of all passes
pub record Kept {L K P : Type 0} (kind : L → K) (sections : L → List P) (items : List L) (views : List (Sight K P)) : Type 0 where
  -- the kind of the item, once it has come
  pub one_kind : Option K
  -- each pass knows it
  pub agree : (pass : ℕ) (v : Sight K P) → get_elem? views pass ≡ some v → v.is_new ≡ false → v.kind ≡ one_kind
  pub alike : All (λ x. one_kind ≡ Some (kind x)) items
  pub first : (pass : ℕ) (v : Sight K P) → get_elem? views pass ≡ some v → v.is_new ≡ true → IsFirst items views v
  -- the item is in one place at most, the queue or one pass that it is out with
  pub one_place : length items + total away views ≤ 1
  -- no section belongs to two passes
  pub one_owner : (n : ℕ) → total (owned n) views ≤ 1
  -- in the queue the item has what the passes left
  pub here : All (λ x. StandFor views (sections x)) items
  -- and so it had when it was taken
  pub out : (pass : ℕ) (v : Sight K P) (xs : List P) → get_elem? views pass ≡ some v → v.taken ≡ Some xs → StandFor views xs

-- What a pass may give back: the item was taken, and now has the sections `now`. Those that aren't the pass's are as they were.
pub record KeepsOthers {K P : Type 0} (v : Sight K P) (now : List P) : Type 0 where
  pub before : List P
  pub taken : v.taken ≡ Some before
  pub count : length now ≡ length before
  pub others : (n : ℕ) → owned n v ≡ 0 → slice_get now n ≡ slice_get before n
