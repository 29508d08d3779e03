use Rattle.std.specs.Prelude.{flat_map, length}
use Rattle.commands.specs.Counts.{count_line}
use Rattle.commands.specs.Written.{IsWrittenFront}
use Rattle.commands.proofs.counts.write_counts.Given as goal

abbrev pub invariant-loop-count : goal.invariant-loop-count
invariant-loop-count g l = IsWrittenFront g.E.Write.contents l.initial.err l.err (flat_map (count_line l.stats) l.counts) (flat_map (count_line l.stats) l.rest)

abbrev pub decreases-loop-count : goal.decreases-loop-count
decreases-loop-count g l = length l.rest
