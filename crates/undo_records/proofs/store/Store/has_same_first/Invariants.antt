use Rattle.std.proofs.Common.{◌≡◌, drop}
use Rattle.undo_records.specs.First.{first_state, same_state}
use Rattle.undo_records.proofs.store.Store.has_same_first.Given as goal

abbrev pub invariant-loop-cell : goal.invariant-loop-cell
invariant-loop-cell l =
    same_state (first_state l.self) (first_state l.other) ≡ same_state (drop l.cell (first_state l.self)) (drop l.cell (first_state l.other))
