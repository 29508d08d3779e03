use Rattle.std.specs.Prelude.{flat_map, length}
use Rattle.commands.specs.Reports.{refused_line}
use Rattle.commands.specs.Written.{IsWrittenFront}
use Rattle.commands.proofs.report.write_steps.Given as goal

abbrev pub invariant-loop-step : goal.invariant-loop-step
invariant-loop-step g l = IsWrittenFront g.E.Write.contents l.initial.err l.err (flat_map refused_line l.refused) (flat_map refused_line l.rest)

abbrev pub decreases-loop-step : goal.decreases-loop-step
decreases-loop-step g l = length l.rest
