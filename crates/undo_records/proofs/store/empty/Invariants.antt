use Rattle.std.proofs.Common.{length}
use Rattle.undo_records.proofs.store.empty.Given as goal

abbrev pub decreases-loop-scalar : goal.decreases-loop-scalar
decreases-loop-scalar l = length l.changes.items
