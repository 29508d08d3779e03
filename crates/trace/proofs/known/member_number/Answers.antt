use Rattle.plans.specs.Plans.{member_texts}
use Rattle.trace.proofs.Found.{same_texts}
use Rattle.trace.proofs.Numbers.{number_found, number_none}
use Rattle.trace.proofs.known.member_number.Goals as goal

pub returns-then-eq-clause-some : goal.returns-then-eq-clause-some
returns-then-eq-clause-some c =
    let same = same_texts c.eq.result c.in-Some.name.now c.args.text.now c.eq.ensures c.if-eq.true in
    number_found (member_texts c.args.plan.now) c.args.text.now c.in-Some.name.now c.loop-name.number c.loop-name.invariant.low c.loop-name.invariant.before c.in-Some.ensures same

pub returns-clause-none : goal.returns-clause-none
returns-clause-none c = number_none (member_texts c.args.plan.now) c.args.text.now c.loop-name.number c.loop-name.invariant.before c.in_default.ensures
