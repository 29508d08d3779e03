use Rattle.std.specs.Prelude.{reverse}
use Rattle.schedules.specs.Schedules.{KeysFit}
use Rattle.commands.proofs.driving.committed_fits.Given as goal

abbrev pub invariant-loop-turned : goal.invariant-loop-turned
invariant-loop-turned g l = KeysFit l.turned-iterator → KeysFit (reverse l.world.committed)
