use Rattle.std.proofs.Common.{◌≡◌, length}
use Rattle.undo_records.specs.Changes.{unwound}
use Rattle.undo_records.proofs.store.put_back.Given as goal

abbrev pub decreases-loop-change : goal.decreases-loop-change
decreases-loop-change l = length l.changes.items

abbrev pub invariant-loop-change : goal.invariant-loop-change
invariant-loop-change l = unwound l.changes.items l.current.items ≡ unwound l.initial.changes.items l.initial.current.items
