use Rattle.std.proofs.Common.{◌≡◌, List, length, refl, subst, subst₂, sym, ◌∙◌}
use Rattle.std.specs.Arc.{arc_value}
use Rattle.std.specs.Vec.{with_items}
use Rattle.std.proofs.lemmas.List.{with_items_is}
use Rattle.plans.specs.Plans.{composition}
use Rattle.virtual_time.specs.Replies.{Answers}
use Rattle.virtual_time.specs.Worlds.{RollBack}
use Rattle.task_seed.specs.declared.setup.Setup.{Setup}
use Rattle.task_seed.specs.Setups.{plan_of, system}
use Rattle.rollback.specs.ComponentView.{ComponentView, machine_of}
use Rattle.world.specs.declared.step.Reply.TheVariants as reply
use Rattle.world.specs.Simulation.{IsSimulation, Simulation, world_of}
use Rattle.world.specs.Keeping.{Keeps}
use Rattle.world.proofs.Keeping.{keeps_same}
use Rattle.world.specs.Stepping.{Steps}
use Rattle.world.specs.Steps.{answer_by}
use Rattle.world.proofs.world.World.roll_back.Goals as goal

pub invariant_of-self : goal.invariant_of-self
invariant_of-self g c =
    let t = g.T.Turns.turn_of in
    let f = c.self.inside in
    let cs = c.roll_back.new.components in
    let items : (with_items f.components cs).items ≡ cs = with_items_is f.components cs (c.roll_back.ensures.many ∙ c.deref_mut.ensures.len) in
    let steps = subst₂ (λ (p : Setup _) (old : List (ComponentView (Setup _))). Steps t p old f.flight cs c.roll_back.new.flight (RollBack c.args.i) (answer_by reply.RolledBack c.roll_back.result)) c.deref.ensures c.deref_mut.ensures.value c.roll_back.ensures.step in
    (c.self.invariant.0, subst (λ xs. IsSimulation (system t (arc_value f.setup)) (record { setup = arc_value f.setup; components = xs; flight = c.roll_back.new.flight; bound = f.bound; committed = f.committed.before })) (sym items) (steps f.bound f.committed.before c.self.invariant.1).kept)

pub returns-clause-answers : goal.returns-clause-answers
returns-clause-answers g c =
    let t = g.T.Turns.turn_of in
    let f = c.self.inside in
    let cs = c.roll_back.new.components in
    let items : (with_items f.components cs).items ≡ cs = with_items_is f.components cs (c.roll_back.ensures.many ∙ c.deref_mut.ensures.len) in
    let steps = subst₂ (λ (p : Setup _) (old : List (ComponentView (Setup _))). Steps t p old f.flight cs c.roll_back.new.flight (RollBack c.args.i) (answer_by reply.RolledBack c.roll_back.result)) c.deref.ensures c.deref_mut.ensures.value c.roll_back.ensures.step in
    let answers = (steps f.bound f.committed.before c.self.invariant.1).answers in
    subst₂ (λ (v : Simulation _) (xs : List (ComponentView (Setup _))). Answers (machine_of t v.setup) (length (composition (plan_of v.setup))) (world_of (machine_of t v.setup) v) (RollBack c.args.i) (answer_by reply.RolledBack c.roll_back.result) (world_of (machine_of t v.setup) (record { setup = arc_value f.setup; components = xs; flight = c.roll_back.new.flight; bound = f.bound; committed = f.committed.before })))
    c.self.view_is (sym items) answers

pub returns-clause-keeps : goal.returns-clause-keeps
returns-clause-keeps g c =
    let f = c.self.inside in
    let cs = c.roll_back.new.components in
    let items : (with_items f.components cs).items ≡ cs = with_items_is f.components cs (c.roll_back.ensures.many ∙ c.deref_mut.ensures.len) in
    let old : Simulation _ = record { setup = arc_value f.setup; components = f.components.items; flight = f.flight; bound = f.bound; committed = f.committed.before } in
    let new : Simulation _ = record { setup = arc_value f.setup; components = cs; flight = c.roll_back.new.flight; bound = f.bound; committed = f.committed.before } in
    subst₂ (λ (v : Simulation _) (xs : List (ComponentView (Setup _))). Keeps v (record { setup = arc_value f.setup; components = xs; flight = c.roll_back.new.flight; bound = f.bound; committed = f.committed.before })) c.self.view_is (sym items) (keeps_same old new refl refl)
