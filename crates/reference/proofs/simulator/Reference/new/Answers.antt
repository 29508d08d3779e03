use Rattle.std.proofs.Common.{◌≡◌, [], ap, subst}
use Rattle.std.specs.Arc.{arc_value}
use Rattle.plans.specs.Plans.{composition}
use Rattle.task_seed.specs.Setups.{system, plan_of}
use Rattle.reference.specs.Clocks.{AreClocks}
use Rattle.reference.specs.Memos.{AreMemos}
use Rattle.reference.specs.Standing.{IsBeforeLeast, taken_at}
use Rattle.reference.proofs.Stepping.{seen}
use Rattle.reference.proofs.simulator.Reference.new.Goals as goal

pub invariant_of-result : goal.invariant_of-result
invariant_of-result g c =
    let t = g.T.Turns.turn_of in
    let f = c.in_ok-frontier.frontier in (
      subst (λ p. IsBeforeLeast (system t p) f.places.items f.numbers.items f.states.items) c.deref.ensures c.in_ok-frontier.ensures.stands,
      subst (λ p. AreClocks t p f.numbers.items f.clocks.clocks.items) c.deref.ensures c.in_ok-frontier.ensures.clocks,
      subst (λ p. AreMemos (composition (plan_of p)) f.states.items f.memos.items) c.deref.ensures c.in_ok-frontier.ensures.memos,
    )

pub returns : goal.returns
returns g c =
    let t = g.T.Turns.turn_of in
    let f = c.in_ok-frontier.frontier in
    ap (seen (arc_value c.args.setup)) (subst (λ p. taken_at (system t p) f.places.items f.numbers.items ≡ []) c.deref.ensures c.in_ok-frontier.ensures.none)
