-- What is kept since the newest mark and since the older ones.
use Rattle.std.specs.Prelude.{◌≡◌, ℕ, ◌<◌, Bool, true, false, List, [], ◌∷◌, slice_set}
use Rattle.terms.specs.Datum.{Datum}
use Rattle.undo_records.specs.declared.change.Change.{Change}
use Rattle.undo_records.specs.Changes.{unwound}

-- what was written since each mark, the newest mark first; nothing where there is no mark
abbrev pub marks_of : Bool → List Change → List (List Change) → List (List Change)
marks_of false newest older = []
marks_of true newest older = newest ∷ older

-- without a mark nothing is kept
abbrev pub IsPlain : Bool → List Change → List (List Change) → Type 0
IsPlain is_marked newest older = is_marked ≡ false → (newest ≡ []) × (older ≡ [])

-- going back needs nothing of what a write of a cell replaces
abbrev pub IsCovered : ℕ → List Change → Type 0
IsCovered cell changes = (old : Datum) (state : List Datum) → unwound changes (slice_set state cell old) ≡ unwound changes state

-- so it is for this cell, if it is one: the greatest number of a word is none
abbrev pub IsLast : ℕ → List Change → Type 0
IsLast cell changes = cell < 18446744073709551615 → IsCovered cell changes
