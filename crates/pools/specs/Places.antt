-- The rule of the pool: each item has one place, in the queue or in one pass.
use Rattle.std.specs.Prelude.{◌≡◌, ℕ, ◌+◌, ◌≤◌, Bool, true, false, ◌==◌, List, [], ◌∷◌, length, map, cond, All, Option, Some, None}
use mathlib.Core.Option.{some}
use lib.ListN.{get_elem?}
use Rattle.pools.specs.declared.rule.Hand.{Hand}

abbrev pub hand : {K : Type 0} → Bool → List ℕ → List ℕ → Option K → Hand K
hand alone all held kind = record { alone = alone; all = all; held = held; kind = kind }

-- 1 where it is so, and else 0
abbrev pub one : Bool → ℕ
one true = 1
one false = 0

-- how often x stands in the list
abbrev pub times : ℕ → List ℕ → ℕ
times x [] = 0
times x (y ∷ ys) = one (y == x) + times x ys

-- the list without the first x
abbrev pub without : ℕ → List ℕ → List ℕ
without x [] = []
without x (y ∷ ys) = cond (y == x) ys (y ∷ without x ys)

-- f of each view, added up
abbrev pub total : {K : Type 0} → (Hand K → ℕ) → List (Hand K) → ℕ
total f [] = 0
total f (v ∷ vs) = f v + total f vs

-- the places of the number x: how often an item of the queue has it, and how often it is out with a pass
abbrev pub places : {L K : Type 0} → (L → ℕ) → ℕ → List L → List (Hand K) → ℕ
places number x items views = times x (map number items) + total (λ v. times x v.held) views

-- what is so at each moment, whatever the threads did: of the items of the queue and of the views of all passes
pub record Placed {L K : Type 0} (number : L → ℕ) (kind : L → K) (items : List L) (views : List (Hand K)) : Type 0 where
  -- the numbers of all items
  pub all : List ℕ
  -- the kind of all, if there are any
  pub one_kind : Option K
  -- each pass knows these
  pub agree : (pass : ℕ) (v : Hand K) → get_elem? views pass ≡ some v → (v.all ≡ all) × (v.kind ≡ one_kind)
  -- and one that is marked as the only one is the only one
  pub sole : (pass : ℕ) (v : Hand K) → get_elem? views pass ≡ some v → v.alone ≡ true → length views ≡ 1
  -- each item of the queue has that kind
  pub alike : All (λ x. one_kind ≡ Some (kind x)) items
  -- no two items have one number
  pub distinct : (x : ℕ) → times x all ≤ 1
  -- so the number of an item has just one place, and any other number has none
  pub each_once : (x : ℕ) → places number x items views ≡ times x all
  -- the queue and the passes have as many items as there are
  pub count : length items + total (λ v. length v.held) views ≡ length all

-- no number stands twice among these
abbrev pub AreOnce : List ℕ → Type 0
AreOnce numbers = (x : ℕ) → times x numbers ≤ 1

-- the kind of the first of several, if there is one
abbrev pub common : {L K : Type 0} → (L → K) → List L → Option K
common kind [] = None
common kind (x ∷ xs) = Some (kind x)

-- all are of one kind
abbrev pub AreAlike : {L K : Type 0} → (L → K) → List L → Type 0
AreAlike kind xs = All (λ x. common kind xs ≡ Some (kind x)) xs
