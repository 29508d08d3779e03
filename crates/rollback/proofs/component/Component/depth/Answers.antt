use Rattle.std.proofs.Common.{ap, length, ◌∙◌}
use Rattle.std.specs.Arc.{arc_value}
use Rattle.task_seed.specs.Setups.{system}
use Rattle.rollback.specs.ComponentView.{ComponentView}
use Rattle.rollback.proofs.Keeping.{depth_is}
use Rattle.rollback.proofs.component.Component.depth.Goals as goal

pub returns : goal.returns
returns g c =
    let f = c.self.inside in
    c.marks.ensures
    ∙ depth_is (system g.T.Turns.turn_of (arc_value f.setup)) f.number f.store f.done.before c.self.invariant.0.replayed
    ∙ ap (λ (h : ComponentView _). length h.history.done) c.self.view_is
