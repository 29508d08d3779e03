use Rattle.std.proofs.Common.{◌≡◌, ℕ, length}
use Rattle.std.specs.Prelude.{Some, slice_get}
use Rattle.task_seed.specs.declared.clock.Clock.{Clock}
use Rattle.task_seed.specs.Clocks.{HasReached}
use Rattle.reference.proofs.clocks.Clocks.new.Given as goal

abbrev pub invariant-loop-i : goal.invariant-loop-i
invariant-loop-i g l = record {
  many : length l.clocks.items ≡ l.i;
  each : (i : ℕ) (clock : Clock) → slice_get l.clocks.items i ≡ Some clock → HasReached g.T.Turns.turn_of l.setup i clock 0;
}
