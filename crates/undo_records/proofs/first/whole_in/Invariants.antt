use Rattle.std.proofs.Common.{◌≡◌, drop}
use Rattle.undo_records.specs.Places.{whole_before}
use Rattle.undo_records.proofs.first.whole_in.Given as goal

abbrev pub invariant-loop-change : goal.invariant-loop-change
invariant-loop-change l =
    whole_before l.cell l.changes l.later ≡ whole_before l.cell (drop l.change-index l.changes) l.later
