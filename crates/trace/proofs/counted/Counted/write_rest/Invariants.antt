use Rattle.std.proofs.Common.{length, ◌-◌, ◌≡◌, ◌≤◌, take}
use Rattle.std.specs.Io.KnownBytes.{Appends}
use Rattle.trace.specs.Counts.{writer_of, failures_of}
use Rattle.trace.proofs.counted.Counted.write_rest.Given as goal

abbrev pub invariant-loop-written : goal.invariant-loop-written
invariant-loop-written g l = record {
  bytes : Appends (g.W.Write.contents (writer_of l.initial.self)) (g.W.Write.contents (writer_of l.self)) (take l.written l.piece);
  failures : failures_of l.self ≡ failures_of l.initial.self;
  within : l.written ≤ length l.piece;
}

abbrev pub decreases-loop-written : goal.decreases-loop-written
decreases-loop-written g l = length l.piece - l.written
