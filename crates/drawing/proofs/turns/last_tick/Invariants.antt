use Rattle.std.proofs.Common.{◌≡◌, ◌-◌, ◌≤◌, length}
use Rattle.drawing.specs.Turns.{AreWithin, last_tick}
use Rattle.drawing.proofs.turns.last_tick.Given as goal

abbrev pub invariant-loop-turned : goal.invariant-loop-turned
invariant-loop-turned l = record {
  within : AreWithin l.from l.rest;
  above : l.from ≤ l.tick;
  below : l.tick - l.from ≤ 4294967296;
  left : last_tick l.tick l.rest ≡ last_tick l.from l.turns;
}

abbrev pub decreases-loop-turned : goal.decreases-loop-turned
decreases-loop-turned l = length l.rest
