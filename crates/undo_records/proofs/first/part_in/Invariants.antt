use Rattle.std.proofs.Common.{◌≡◌, drop}
use Rattle.undo_records.specs.Places.{part_before}
use Rattle.undo_records.proofs.first.part_in.Given as goal

abbrev pub invariant-loop-change : goal.invariant-loop-change
invariant-loop-change l =
    part_before l.cell l.index l.changes l.later ≡ part_before l.cell l.index (drop l.change-index l.changes) l.later
