-- What a cell of a store has in the first state.
use Rattle.std.specs.Prelude.{List, ◌∷◌, map}
use Rattle.terms.specs.Datum.{Datum}
use Rattle.undo_records.specs.declared.change.Change.{Change}
use Rattle.undo_records.specs.declared.first.Traced.{Traced}
use Rattle.undo_records.specs.Changes.{changes_in}
use Rattle.undo_records.specs.Places.{earliest}

-- what was written since each mark, the newest mark first; as since one mark where there is none
abbrev pub written_in : Traced → List (List Change)
written_in traced = traced.newest.now.items ∷ map changes_in traced.older.now.items

abbrev pub first_value : Traced → Datum
first_value traced = earliest traced.cell (written_in traced) traced.current.now
