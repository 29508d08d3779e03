use Rattle.std.proofs.Common.{◌≤◌, length, drop}
use Rattle.trace.specs.Lines.{others_text}
use Rattle.trace.specs.Fronts.{IsBefore}
use Rattle.trace.proofs.words.write_others.Given as goal

abbrev pub invariant-loop-left : goal.invariant-loop-left
invariant-loop-left l = record {
  within : l.left ≤ length l.arguments;
  low : l.start ≤ length l.bytes;
  before : IsBefore l.initial.bytes l.bytes l.end (others_text l.plan (drop l.left l.arguments)) l.start;
}

abbrev pub decreases-loop-left : goal.decreases-loop-left
decreases-loop-left l = l.left
