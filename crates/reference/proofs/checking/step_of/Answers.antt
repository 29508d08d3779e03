use Rattle.std.proofs.Common.{rules, arith, ◌≡◌, ◌<◌, Bool, true, subst, length, get_or}
use Rattle.plans.specs.Plans.{composition}
use Rattle.reference.specs.Verdicts.{IsPermitted, state_at}
use Rattle.reference.proofs.Checked.{joint_by}
use Rattle.reference.proofs.Taken.{none_acts, taker_acts}
use Rattle.reference.proofs.checking.step_of.Goals as goal

pub returns-then-is_empty-clause-stepped : goal.returns-then-is_empty-clause-stepped
returns-then-is_empty-clause-stepped c =
    let none : length c.args.takers.now ≡ 0 = first_of (omega arith, search rules) in
    none_acts (composition c.args.plan.now) c.args.action.now c.args.takers.now c.requires.takers none

pub returns-clause-stepped : goal.returns-clause-stepped
returns-clause-stepped c =
    let all = composition c.args.plan.now in
    let action = c.args.action.now in
    let takers = c.args.takers.now in
    let some : 0 < length takers = first_of (omega arith, search rules) in
    let passes : c.in_ok-is_permitted.field-0 ≡ true = c.if-not-branch.false in
    let permitted = subst (λ (b : Bool). IsPermitted all action (state_at c.args.states.now) b) passes c.in_ok-is_permitted.ensures in
    joint_by all action c.args.states.now c.take_action.new.states (get_or takers 0 0) (taker_acts all action takers c.requires.takers 0 0 some) permitted c.in_ok-take_action.ensures.taken
