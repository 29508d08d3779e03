use Rattle.std.proofs.Common.{◌≡◌, ◌++◌, length}
use Rattle.raw_events.specs.Around.{insert_sorted}
use Rattle.raw_events.proofs.line.Line.insert_sorted.Given as goal

abbrev pub invariant-loop-self : goal.invariant-loop-self
invariant-loop-self g l = (l.passed ++ insert_sorted g.T.Ord.cmp l.fn.cell l.self ≡ insert_sorted g.T.Ord.cmp l.fn.cell l.fn.self) × (l.cell ≡ l.fn.cell)

abbrev pub decreases-loop-self : goal.decreases-loop-self
decreases-loop-self g l = length l.self
