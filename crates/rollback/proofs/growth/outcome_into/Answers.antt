use Rattle.std.proofs.Common.{◌≡◌, true, None, rules, sym, ◌∙◌}
use Rattle.plans.specs.Plans.{composition}
use Rattle.plans.specs.Resting.{rests}
use Rattle.plans.specs.RestingLaws.{noted_resting, rests_idle}
use Rattle.rollback.proofs.growth.outcome_into.Goals as goal

pub returns-then-is_resting-clause-found : goal.returns-then-is_resting-clause-found
returns-then-is_resting-clause-found c =
    let turn = c.args.turn in
    let rested : rests c.args.resting.now turn.task ≡ true = search rules in
    c.requires.empty ∙ sym (rests_idle (composition c.args.plan.now) c.args.i c.args.store.now.current c.args.resting.now c.requires.resting turn.task turn.choice rested)

pub returns-clause-resting : goal.returns-clause-resting
returns-clause-resting c =
    let turn = c.args.turn in
    let none : c.outcome_into.new.found ≡ None = search rules in
    noted_resting (composition c.args.plan.now) c.args.i c.args.store.now.current c.args.resting.now c.note.new.self c.requires.resting turn.task turn.choice (sym none ∙ c.in_ok-outcome_into.ensures.ok) c.note.ensures
