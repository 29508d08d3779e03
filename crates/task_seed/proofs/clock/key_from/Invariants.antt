use Rattle.std.proofs.Common.{◌≡◌, ◌-◌, ◌<◌, ◌≤◌, Some}
use Rattle.task_seed.specs.Setups.{system}
use Rattle.task_seed.specs.Turning.{key_of}
use Rattle.task_seed.proofs.clock.key_from.Given as goal

abbrev pub invariant-loop-key : goal.invariant-loop-key
invariant-loop-key g l = record {
  there : Some l.key ≡ key_of (system g.T.Turns.turn_of l.setup) l.from.component l.key.number;
  low : l.key.number ≤ l.n;
  small : l.key.number < 4294967296;
}

abbrev pub decreases-loop-key : goal.decreases-loop-key
decreases-loop-key g l = l.n - l.key.number
