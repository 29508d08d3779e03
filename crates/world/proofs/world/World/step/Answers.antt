use Rattle.std.proofs.Common.{[], ◌∷◌, length, refl, subst}
use Rattle.plans.specs.Plans.{composition}
use Rattle.virtual_time.specs.Machine.{Lawful}
use Rattle.task_seed.specs.Setups.{plan_of}
use Rattle.rollback.specs.ComponentView.{machine_of}
use Rattle.world.specs.Simulation.{world_of}
use Rattle.world.specs.Steps.{answer_of, step_of}
use Rattle.world.proofs.world.World.step.Goals as goal

pub returns-clause-stays : goal.returns-clause-stays
returns-clause-stays g c =
    let m = machine_of g.T.Turns.turn_of c.args.self.now.setup in
    let next = world_of m c.answer.new.self in
    c.committed_is_reference.ensures.stays m (length (composition (plan_of c.args.self.now.setup))) (world_of m c.args.self.now) next (step_of c.args.step.now ∷ []) (answer_of c.answer.result ∷ []) (next, c.answer.ensures.answers, refl)

pub returns-clause-rises : goal.returns-clause-rises
returns-clause-rises g c = λ lower upper other before after.
    let t = g.T.Turns.turn_of in
    let old = c.args.self.now in
    let m = machine_of t old.setup in
    let law = subst (λ p. Lawful (machine_of t p)) c.setup.ensures c.machine_is_lawful.ensures.lawful in
    c.virtual_time_rises.ensures.rises m (length (composition (plan_of old.setup))) (world_of m old) (world_of m c.answer.new.self) (step_of c.args.step.now) (answer_of c.answer.result) lower upper law c.soundness_law.ensures.sound c.answer.ensures.answers other before after
