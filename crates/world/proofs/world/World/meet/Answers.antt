use Rattle.std.proofs.Common.{List, length, refl, subst, subst₂}
use Rattle.std.specs.Arc.{arc_value}
use Rattle.antimessage.specs.Counts.{plus}
use Rattle.plans.specs.Plans.{composition}
use Rattle.virtual_time.specs.Replies.{Answers}
use Rattle.virtual_time.specs.Worlds.{Meet}
use Rattle.task_seed.specs.declared.setup.Setup.{Setup}
use Rattle.task_seed.specs.Setups.{plan_of}
use Rattle.rollback.specs.Flight.{item_of}
use Rattle.rollback.specs.ComponentView.{ComponentView, machine_of}
use Rattle.world.specs.declared.step.Reply.TheVariants as reply
use Rattle.world.specs.Simulation.{Simulation, world_of}
use Rattle.world.specs.Keeping.{Keeps}
use Rattle.world.proofs.Keeping.{keeps_same}
use Rattle.world.specs.Stepping.{Steps}
use Rattle.world.specs.Steps.{answer_by}
use Rattle.world.proofs.world.World.meet.Goals as goal

pub invariant_of-self : goal.invariant_of-self
invariant_of-self g c =
    let t = g.T.Turns.turn_of in
    let f = c.self.inside in
    let steps = subst₂ (λ (p : Setup _) (old : List (ComponentView (Setup _))). Steps t p old f.flight old c.meet.new.flight (Meet c.args.message.now.to (item_of (plus c.args.message.now))) (answer_by (λ _. reply.Met) c.meet.result)) c.deref.ensures c.deref-2.ensures.value c.meet.ensures.step in
    (c.self.invariant.0, (steps f.bound f.committed.before c.self.invariant.1).kept)

pub returns-clause-answers : goal.returns-clause-answers
returns-clause-answers g c =
    let t = g.T.Turns.turn_of in
    let f = c.self.inside in
    let steps = subst₂ (λ (p : Setup _) (old : List (ComponentView (Setup _))). Steps t p old f.flight old c.meet.new.flight (Meet c.args.message.now.to (item_of (plus c.args.message.now))) (answer_by (λ _. reply.Met) c.meet.result)) c.deref.ensures c.deref-2.ensures.value c.meet.ensures.step in
    subst (λ (v : Simulation _). Answers (machine_of t v.setup) (length (composition (plan_of v.setup))) (world_of (machine_of t v.setup) v) (Meet c.args.message.now.to (item_of (plus c.args.message.now))) (answer_by (λ _. reply.Met) c.meet.result) (world_of (machine_of t v.setup) (record { setup = arc_value f.setup; components = f.components.items; flight = c.meet.new.flight; bound = f.bound; committed = f.committed.before })))
    c.self.view_is (steps f.bound f.committed.before c.self.invariant.1).answers

pub returns-clause-keeps : goal.returns-clause-keeps
returns-clause-keeps g c =
    let f = c.self.inside in
    let old : Simulation _ = record { setup = arc_value f.setup; components = f.components.items; flight = f.flight; bound = f.bound; committed = f.committed.before } in
    let new : Simulation _ = record { setup = arc_value f.setup; components = f.components.items; flight = c.meet.new.flight; bound = f.bound; committed = f.committed.before } in
    subst (λ (v : Simulation _). Keeps v new) c.self.view_is (keeps_same old new refl refl)
