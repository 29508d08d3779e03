-- What writes replaced, and how it is put back.
use Rattle.std.specs.Prelude.{◌≡◌, ◌==◌, ◌&&◌, Bool, false, List, [], ◌∷◌, ◌++◌, slice_set, refl}
use Rattle.std.specs.declared.vec.Vec.{Vec}
use Rattle.std.proofs.Common.{ap}
use Rattle.terms.specs.Datum.{Datum}
use Rattle.terms.specs.Shapes.{set_item}
use Rattle.undo_records.specs.declared.change.Change.{Change}
use Rattle.undo_records.specs.declared.change.Change.TheVariants.{Cell, Item}

-- the state before a write: what it replaced is put back
abbrev pub restored : Change → List Datum → List Datum
restored (Cell cell old) state = slice_set state cell old
restored (Item cell index old) state = set_item cell index old state

-- the state before several writes, the first of them first: the last one is put back first
abbrev pub unwound : List Change → List Datum → List Datum
unwound [] state = state
unwound (change ∷ changes) state = restored change (unwound changes state)

abbrev pub changes_in : {A : Type 0} → Vec Change A → List Change
changes_in changes = changes.items

-- the states below the current one, from what was written since each mark, the newest mark first
abbrev pub states_below : List (List Change) → List Datum → List (List Datum)
states_below [] state = []
states_below (changes ∷ marks) state = unwound changes state ∷ states_below marks (unwound changes state)

pub unwound-append : (changes : List Change) (last : Change) (state : List Datum) → unwound (changes ++ last ∷ []) state ≡ unwound changes (restored last state)
unwound-append [] last state = refl
unwound-append (change ∷ changes) last state = ap (restored change) (unwound-append changes last state)

-- a change replaced all that a later one did: the whole of its variable, or the same item
abbrev pub covers : Change → Change → Bool
covers (Cell at old) (Cell cell later) = at == cell
covers (Cell at old) (Item cell index later) = at == cell
covers (Item at place old) (Cell cell later) = false
covers (Item at place old) (Item cell index later) = at == cell && place == index

-- what was written since each mark takes in one more change: going back from a state now is going back from the one before that change
abbrev pub IsNoted : Change → List (List Change) → List (List Change) → Type 0
IsNoted change old new = (state : List Datum) → states_below new state ≡ states_below old (restored change state)

pub ruleset unwound_more = (unwound-append)
