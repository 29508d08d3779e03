use Rattle.std.proofs.Common.{◌≤◌, ◌-◌, drop, length}
use Rattle.ioa_tokens.specs.Tokens.{placed}
use Rattle.ioa_layout.specs.Ink.{parts_of}
use Rattle.ioa_layout.specs.Lines.{flags_of, is_below}
use Rattle.ioa_layout.proofs.Items.{IsLeft}
use Rattle.ioa_layout.proofs.reading.items.Given as goal

abbrev pub invariant-loop-at : goal.invariant-loop-at
invariant-loop-at l = record {
  left : IsLeft l.source l.at (placed (drop l.read l.tokens)) (parts_of l.items.items) (flags_of l.items.items) (is_below l.below);
  within : l.at ≤ length l.source;
  few : l.read ≤ length l.tokens;
}

abbrev pub decreases-loop-at : goal.decreases-loop-at
decreases-loop-at l = length l.source - l.at
