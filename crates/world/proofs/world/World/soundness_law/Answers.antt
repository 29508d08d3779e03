use Rattle.std.proofs.Common.{length, subst}
use Rattle.std.specs.Arc.{arc_value}
use Rattle.plans.specs.Plans.{composition}
use Rattle.virtual_time.specs.Replies.{IsReached}
use Rattle.task_seed.specs.Setups.{plan_of, system}
use Rattle.rollback.specs.ComponentView.{machine_of}
use Rattle.world.specs.MachineLaws.{Laws}
use Rattle.world.specs.Simulation.{Simulation, world_of}
use Rattle.virtual_time.specs.Rules.{IsWorld}
use Rattle.world.proofs.world.World.soundness_law.Goals as goal

pub returns-clause-reached : goal.returns-clause-reached
returns-clause-reached g c =
    let t = g.T.Turns.turn_of in
    let f = c.self.inside in
    let w : Simulation _ = record { setup = arc_value f.setup; components = f.components.items; flight = f.flight; bound = f.bound; committed = f.committed.before } in
    let laws : Laws (machine_of t w.setup) (length (system t w.setup).composition) = subst (λ p. Laws (machine_of t p) (length (system t p).composition)) c.deref.ensures c.laws.ensures in
    subst (λ (v : Simulation _). IsReached (machine_of t v.setup) (length (composition (plan_of v.setup))) (world_of (machine_of t v.setup) v)) c.self.view_is c.self.invariant.1.reached

pub returns-clause-sound : goal.returns-clause-sound
returns-clause-sound g c =
    let t = g.T.Turns.turn_of in
    let f = c.self.inside in
    let w : Simulation _ = record { setup = arc_value f.setup; components = f.components.items; flight = f.flight; bound = f.bound; committed = f.committed.before } in
    let laws : Laws (machine_of t w.setup) (length (system t w.setup).composition) = subst (λ p. Laws (machine_of t p) (length (system t p).composition)) c.deref.ensures c.laws.ensures in
    subst (λ (v : Simulation _). IsWorld (machine_of t v.setup) (world_of (machine_of t v.setup) v)) c.self.view_is (laws.world.sound (world_of (machine_of t w.setup) w) c.self.invariant.1.reached)
