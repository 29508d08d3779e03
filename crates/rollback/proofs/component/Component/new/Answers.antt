use Rattle.std.proofs.Common.{◌≡◌, subst}
use Rattle.std.specs.Arc.{arc_value}
use Rattle.plans.specs.Plans.{composition}
use Rattle.plans.specs.RestingLaws.{woken_resting}
use Rattle.task_seed.specs.Setups.{system, plan_of}
use Rattle.task_seed.specs.Turning.{key_of}
use Rattle.task_seed.specs.ClockLaws.{first_reached}
use Rattle.task_seed.specs.Clocks.{Reaching}
use Rattle.rollback.proofs.Keeping.{kept_new}
use Rattle.rollback.proofs.component.Component.new.Goals as goal

pub invariant_of-result : goal.invariant_of-result
invariant_of-result g c =
    let s = system g.T.Turns.turn_of (arc_value c.args.setup) in (
      rw (c.in_ok-store.ensures, c.new-2.ensures, c.new-3.ensures, c.new-4.ensures)
          (kept_new s c.args.number c.in_ok-state.state c.first_key-coming.result c.requires (subst (λ u. c.first_key-coming.result ≡ key_of (system g.T.Turns.turn_of u) c.args.number 0) c.deref-3.ensures c.first_key-coming.ensures.key) c.first_key-coming.ensures.small),
      rw c.new-2.ensures (first_reached g.T.Turns.turn_of (arc_value c.args.setup) c.args.number c.new-clock.result c.reach.new.self c.new-clock.ensures.component c.new-clock.ensures.ticks c.new-clock.ensures.read
          (subst (λ u. Reaching g.T.Turns.turn_of u c.new-clock.result.component c.new-clock.result 0 c.reach.new.self) c.deref-2.ensures c.in_ok-reach.ensures.ok)),
      woken_resting (composition (plan_of (arc_value c.args.setup))) c.args.number c.in_ok-store.store.current c.new-5.result c.new-5.ensures,
    )
