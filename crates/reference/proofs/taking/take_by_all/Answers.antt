use Rattle.std.proofs.Common.{ap, ◌∙◌}
use Rattle.plans.specs.Plans.{composition}
use Rattle.task_seed.specs.Setups.{system, plan_of}
use Rattle.reference.proofs.Joining.{distinct_rising, among_within, joined}
use Rattle.reference.proofs.Owning.{hold_marks}
use Rattle.reference.proofs.Woken.{still_known}
use Rattle.reference.proofs.taking.take_by_all.Goals as goal

pub take_action-requires-clause-once : goal.take_action-requires-clause-once
take_action-requires-clause-once g c = distinct_rising 0 c.in_ok-among.among.now c.in_ok-among.ensures.rising

pub take_action-requires-clause-within : goal.take_action-requires-clause-within
take_action-requires-clause-within g c =
    among_within (system g.T.Turns.turn_of c.args.setup.now) (composition c.plan-plan.result.now) (ap composition c.plan-plan.ensures) c.args.i c.args.action.now c.in_ok-among.among.now c.in_ok-among.ensures _ c.requires.many

pub forget_marks-requires-clause-once : goal.forget_marks-requires-clause-once
forget_marks-requires-clause-once g c = distinct_rising 0 c.in_ok-among.among.now c.in_ok-among.ensures.rising

pub forget_marks-requires-clause-within : goal.forget_marks-requires-clause-within
forget_marks-requires-clause-within g c =
    among_within (system g.T.Turns.turn_of c.args.setup.now) (composition c.plan-plan.result.now) (ap composition c.plan-plan.ensures) c.args.i c.args.action.now c.in_ok-among.among.now c.in_ok-among.ensures _ (c.take_action.ensures.many ∙ c.requires.many)

pub forget_marks-requires-clause-marked : goal.forget_marks-requires-clause-marked
forget_marks-requires-clause-marked g c =
    hold_marks (composition c.plan-plan.result.now) c.args.i c.args.action.now c.in_ok-among.among.now c.args.states.now c.take_action.new.states c.in_ok-take_action.ensures.ok

pub returns-clause-ok : goal.returns-clause-ok
returns-clause-ok g c =
    let s = system g.T.Turns.turn_of c.args.setup.now in
    let p = composition c.plan-plan.result.now in
    joined s p (ap composition c.plan-plan.ensures) c.args.i c.args.action.now c.in_ok-among.among.now c.in_ok-among.ensures c.args.states.now c.take_action.new.states c.forget_marks.new.states c.requires.plain c.in_ok-take_action.ensures.ok c.forget_marks.ensures.each

pub returns-clause-memos : goal.returns-clause-memos
returns-clause-memos g c =
    still_known (composition (plan_of c.args.setup.now)) (composition c.plan-plan.result.now) c.args.i c.args.action.now c.in_ok-among.among.now c.args.states.now c.take_action.new.states c.forget_marks.new.states
    c.args.memos.now c.forget_touched.new.memos c.requires.memos c.in_ok-take_action.ensures.ok c.forget_marks.ensures.each c.forget_touched.ensures.many c.forget_touched.ensures.each
