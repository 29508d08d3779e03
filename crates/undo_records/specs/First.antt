-- The oldest of a list of states.
use Rattle.std.specs.Prelude.{Bool, List, [], ◌∷◌}
use lib.Pointwise.{pointwise}
use Rattle.terms.specs.Datum.{Datum}
use Rattle.terms.specs.Same.{same}
use Rattle.undo_records.specs.States.{States}

-- the last of the states below the current one, or the current one where there is none
abbrev pub oldest : List Datum → List (List Datum) → List Datum
oldest current [] = current
oldest current (state ∷ below) = oldest state below

abbrev pub first_state : States → List Datum
first_state s = oldest s.current s.below

-- whether two states have as many cells, and equal values in them
abbrev pub same_state : List Datum → List Datum → Bool
same_state = pointwise same
