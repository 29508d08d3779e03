use Rattle.std.proofs.Common.{◌≡◌, ◌+◌, length}
use Rattle.raw_events.specs.Onto.{onto}
use Rattle.world.proofs.commit.append.Given as goal

abbrev pub invariant-loop-count : goal.invariant-loop-count
invariant-loop-count l =
    record {
      all : onto l.committed.after l.committed.before ≡ onto l.fn.turns.after l.fn.committed.before;
      count : l.count + length l.committed.after ≡ length l.fn.turns.after;
    }

abbrev pub decreases-loop-count : goal.decreases-loop-count
decreases-loop-count l = length l.committed.after
