use Rattle.std.proofs.Common.{◌+◌, ◌≤◌, length}
use Rattle.trace.specs.TraceFile.{Gives}
use Rattle.trace.proofs.Sequel.{IsReadTo}
use Rattle.trace.proofs.reading.read_lines.Given as goal

abbrev pub invariant-loop-rest : goal.invariant-loop-rest
invariant-loop-rest l = record {
  read : IsReadTo (Gives l.plan) l.bytes l.rest l.line l.actions.items;
  room : l.line + length l.rest ≤ length l.bytes;
}

abbrev pub decreases-loop-rest : goal.decreases-loop-rest
decreases-loop-rest l = length l.rest
