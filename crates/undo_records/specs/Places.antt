-- What a cell and its items were before several changes.
use Rattle.std.specs.Prelude.{◌≡◌, ◌==◌, ◌&&◌, ℕ, ◌<◌, List, [], ◌∷◌, get_or, length, if◌then◌else◌}
use Rattle.terms.specs.Datum.{Datum, Just, pack, items_of}
use Rattle.terms.specs.Shapes.{with_item}
use Rattle.terms.specs.declared.scalar.Scalar.{Scalar}
use Rattle.undo_records.specs.declared.change.Change.{Change}
use Rattle.undo_records.specs.declared.change.Change.TheVariants.{Cell, Item}

-- the value of a cell before several changes, the first of them first
abbrev pub before : ℕ → List Change → Datum → Datum
before cell [] later = later
before cell (Cell at old ∷ changes) later = if at == cell then old else before cell changes later
before cell (Item at place old ∷ changes) later = if at == cell then with_item place old (before cell changes later) else before cell changes later

-- the value of a cell before all that was written since each mark, the newest mark first
abbrev pub earliest : ℕ → List (List Change) → Datum → Datum
earliest cell [] later = later
earliest cell (changes ∷ marks) later = earliest cell marks (before cell changes later)

-- what the first change of a whole cell replaced
abbrev pub whole_before : ℕ → List Change → Datum → Datum
whole_before cell [] later = later
whole_before cell (Cell at old ∷ changes) later = if at == cell then old else whole_before cell changes later
whole_before cell (Item at place old ∷ changes) later = whole_before cell changes later

-- the same over all marks, the newest mark first
abbrev pub whole_earliest : ℕ → List (List Change) → Datum → Datum
whole_earliest cell [] later = later
whole_earliest cell (changes ∷ marks) later = whole_earliest cell marks (whole_before cell changes later)

-- an item of a value; the value itself where there is none
abbrev pub part : ℕ → Datum → Datum
part index value = get_or (items_of value) index value

-- what the first change of an item, or of its whole cell, replaced
abbrev pub part_before : ℕ → ℕ → List Change → Datum → Datum
part_before cell index [] later = later
part_before cell index (Cell at old ∷ changes) later = if at == cell then part index old else part_before cell index changes later
part_before cell index (Item at place old ∷ changes) later = if at == cell && place == index then old else part_before cell index changes later

-- the same over all marks, the newest mark first
abbrev pub part_earliest : ℕ → ℕ → List (List Change) → Datum → Datum
part_earliest cell index [] later = later
part_earliest cell index (changes ∷ marks) later = part_earliest cell index marks (part_before cell index changes later)

-- a value is like another one but for its items: a list of as many, or the same scalar
pub record IsLike (whole value : Datum) : Type 0 where
  pub count : length (items_of value) ≡ length (items_of whole)
  pub list : whole ≡ pack (items_of whole) → value ≡ pack (items_of value)
  pub scalar : (scalar : Scalar) → whole ≡ Just scalar → value ≡ whole

-- what an item of a value is, if it has that item
abbrev pub IsPart : ℕ → Datum → Datum → Type 0
IsPart index item value = index < length (items_of value) → item ≡ part index value
