use Rattle.std.proofs.Common.{length, map, subst}
use Rattle.std.specs.Arc.{arc_value}
use Rattle.event_keys.specs.Ranks.{rank_of_bound}
use Rattle.virtual_time.specs.Reference.{IsReference}
use Rattle.task_seed.specs.Setups.{system}
use Rattle.task_seed.specs.Taken.{turn_of}
use Rattle.rollback.specs.ComponentView.{machine_of}
use Rattle.world.specs.MachineLaws.{Laws}
use Rattle.world.specs.Simulation.{Simulation, world_of}
use Rattle.world.proofs.world.World.committed.Goals as goal

pub returns-clause-reference : goal.returns-clause-reference
returns-clause-reference g c =
    let t = g.T.Turns.turn_of in
    let f = c.self.inside in
    let w : Simulation _ = record { setup = arc_value f.setup; components = f.components.items; flight = f.flight; bound = f.bound; committed = f.committed.before } in
    let laws : Laws (machine_of t w.setup) (length (system t w.setup).composition) = subst (λ p. Laws (machine_of t p) (length (system t p).composition)) c.deref.ensures c.laws.ensures in
    subst (λ (v : Simulation _). IsReference (machine_of t v.setup) (rank_of_bound v.bound) (map turn_of v.committed)) c.self.view_is (laws.world.reference (world_of (machine_of t w.setup) w) c.self.invariant.1.reached)
