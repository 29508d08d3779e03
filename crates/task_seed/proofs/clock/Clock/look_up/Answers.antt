use Rattle.std.proofs.Common.{◌∙◌, sym}
use Rattle.task_seed.specs.Setups.{system}
use Rattle.task_seed.proofs.Walking.{turn_exists}
use Rattle.task_seed.proofs.clock.Clock.look_up.Goals as goal

pub unreachable-requires : goal.unreachable-requires
unreachable-requires g c =
    turn_exists (system g.T.Turns.turn_of c.args.setup.now) c.args.self.now.component c.args.n c.requires (sym c.in-None.is ∙ c.turn_by.ensures)
