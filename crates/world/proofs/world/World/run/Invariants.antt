use Rattle.std.proofs.Common.{◌≡◌, ◌≤◌, length, map, take}
use Rattle.std.specs.Vec.{vec_capacity, vec_len}
use Rattle.plans.specs.Plans.{composition}
use Rattle.task_seed.specs.Setups.{plan_of}
use Rattle.virtual_time.specs.Replies.{Runs}
use Rattle.rollback.specs.ComponentView.{machine_of}
use Rattle.world.specs.Keeping.{Keeps}
use Rattle.world.specs.Simulation.{world_of}
use Rattle.world.specs.Steps.{answer_of, step_of}
use Rattle.world.proofs.world.World.run.Given as goal

abbrev pub invariant-loop-step : goal.invariant-loop-step
invariant-loop-step g l =
    record {
      ran : Runs (machine_of g.T.Turns.turn_of l.fn.self.setup) (length (composition (plan_of l.fn.self.setup))) (world_of (machine_of g.T.Turns.turn_of l.fn.self.setup) l.fn.self) (map step_of (take l.step-index l.fn.steps)) (map answer_of l.answers.items) (world_of (machine_of g.T.Turns.turn_of l.fn.self.setup) l.self);
      setup : l.self.setup ≡ l.fn.self.setup;
      keeps : Keeps l.fn.self l.self;
      len : vec_len l.answers ≡ l.step-index;
      room : length l.fn.steps ≤ vec_capacity l.answers;
    }
