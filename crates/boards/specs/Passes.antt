-- Which passes belong to which board, and what a pass knows.
use Rattle.std.specs.Prelude.{◌≡◌, ℕ, ◌<◌, List, [], ◌∷◌, slice_get, Some, None}
use Rattle.crossbeam_queue.specs.Passes.{view, IsPassOf, ruled_capacity}
use Rattle.boards.specs.declared.rule.Sight.{Sight}
use Rattle.boards.specs.declared.parts.Board.{Board}
use Rattle.boards.specs.declared.parts.Pass.{Pass}
use Rattle.boards.specs.Sections.{section_of}

module _ {L K P : Type 0} where
  -- what the pass knows
  abbrev pub sight : Pass L K P → Sight K P
  sight p = view p.pass

  -- it is a pass of this board, which has room for its item
  abbrev pub IsOf : Board L K P → Pass L K P → Type 0
  IsOf b p = IsPassOf b.queue p.pass × (0 < ruled_capacity b.queue)

  -- the pass has the section n and no other, and left this there
  abbrev pub Owns : Pass L K P → ℕ → P → Type 0
  Owns p n content = (sight p).own ≡ section_of n content ∷ []

  -- it is a pass of the board of an item of this kind, and the item isn't out with it
  abbrev pub IsAtRest : Board L K P → K → Pass L K P → Type 0
  IsAtRest b kind p = IsOf b p × ((sight p).kind ≡ Some kind) × ((sight p).taken ≡ None)

  -- each has the section of its place among these sections
  abbrev pub AreOwners : Board L K P → K → List P → List (Pass L K P) → Type 0
  AreOwners b kind sections passes = (n : ℕ) (p : Pass L K P) → slice_get passes n ≡ Some p → IsAtRest b kind p × ((c : P) × (slice_get sections n ≡ Some c) × Owns p n c)

  -- it has no section
  abbrev pub IsReader : Board L K P → K → Pass L K P → Type 0
  IsReader b kind p = IsAtRest b kind p × ((sight p).own ≡ [])
