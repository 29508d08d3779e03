use Rattle.std.proofs.Common.{sym, ◌∙◌}
use Rattle.plans.specs.Plans.{action_texts, text_of}
use Rattle.hunt.proofs.Names.{same_texts}
use Rattle.hunt.proofs.Names.{number_found, number_none}
use Rattle.hunt.proofs.wanted.name_number.Goals as goal

pub returns-then-eq-clause-some : goal.returns-then-eq-clause-some
returns-then-eq-clause-some c =
    let same = same_texts c.eq.result c.as_str.result.now c.args.text.now c.eq.ensures c.if-eq.true in
    number_found (action_texts c.args.plan.now) c.args.text.now (text_of c.in-Some.name.now) c.loop-name.number c.loop-name.invariant.low c.loop-name.invariant.before c.in-Some.ensures.text (sym c.as_str.ensures.value ∙ same)

pub returns-clause-none : goal.returns-clause-none
returns-clause-none c = number_none (action_texts c.args.plan.now) c.args.text.now c.loop-name.number c.loop-name.invariant.before c.in_default.ensures.text
