use Rattle.std.proofs.Common.{◌≡◌, ◌++◌, length}
use Rattle.std.specs.Prelude.{flat_map}
use Rattle.drawing.specs.Turns.{AreWithin, turn_text}
use Rattle.drawing.proofs.turns.put_turns.Given as goal

abbrev pub invariant-loop-turned : goal.invariant-loop-turned
invariant-loop-turned l = record {
  within : AreWithin l.from l.rest;
  left : l.text.items ++ flat_map (turn_text l.plan l.from) l.rest ≡ l.initial.text.items ++ flat_map (turn_text l.plan l.from) l.turns;
}

abbrev pub decreases-loop-turned : goal.decreases-loop-turned
decreases-loop-turned l = length l.rest
