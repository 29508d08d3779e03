use Rattle.std.proofs.Common.{◌≤◌, ◌-◌, length}
use Rattle.ioa_tokens.specs.Tokens.{placed}
use Rattle.ioa_tokens.proofs.Cuts.{IsCutTo}
use Rattle.ioa_tokens.proofs.reading.cut_source.Given as goal

abbrev pub invariant-loop-at : goal.invariant-loop-at
invariant-loop-at l = record {
  cut : IsCutTo l.source l.at (placed l.found.items);
  within : l.at ≤ length l.source;
}

abbrev pub decreases-loop-at : goal.decreases-loop-at
decreases-loop-at l = length l.source - l.at
