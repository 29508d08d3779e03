use Rattle.std.proofs.Common.{◌≡◌, length, take}
use Rattle.undo_records.proofs.store.cut.Given as goal

abbrev pub decreases-loop-marks : goal.decreases-loop-marks
decreases-loop-marks l = length l.marks.items

abbrev pub invariant-loop-marks : goal.invariant-loop-marks
invariant-loop-marks l = take l.left l.marks.items ≡ take l.left l.initial.marks.items
