use Rattle.std.proofs.Common.{ap, sym, subst}
use Rattle.std.specs.Prelude.{Err}
use Rattle.plans.specs.Plans.{composition}
use Rattle.task_seed.specs.Any.{any_turn}
use Rattle.task_seed.specs.declared.setup.SetupError.TheVariants.{HorizonTooLarge}
use Rattle.commands.specs.Setups.{given_of, GivesNoSystem}
use Rattle.commands.proofs.SetupReports.{at_most, end_refused, no_error, no_turns, setup_is}
use Rattle.commands.proofs.setups.setup_with.Goals as goal

pub returns-in-Err-clause-err : goal.returns-in-Err-clause-err
returns-in-Err-clause-err c = no_turns (composition c.args.plan) (given_of c.args.given) c.args.ticks c.in-Err.report c.in-Err.ensures.err

pub returns-in-Ok-new-clause-ok : goal.returns-in-Ok-new-clause-ok
returns-in-Ok-new-clause-ok c =
    let short = at_most 4294967296 c.args.ticks (λ long. no_error c.in-Ok-new.setup HorizonTooLarge (c.in-Ok-new.ensures.refused.1 long)) in
    let is = c.in-Ok-new.ensures.ok in
    setup_is c.args.plan (given_of c.args.given) c.args.ticks c.in-Ok-new.setup c.in-Ok.turns c.in-Ok.ensures.ok short is.0 is.1 is.2

pub returns-in-Err-new-clause-err : goal.returns-in-Err-new-clause-err
returns-in-Err-new-clause-err c =
    let given = given_of c.args.given in
    subst (GivesNoSystem (composition c.args.plan) given c.args.ticks) (sym c.report_of.ensures)
    (end_refused (composition c.args.plan) given c.args.ticks (any_turn c.in-Ok.turns) c.in-Ok.ensures.ok c.in-Err-new.refused (λ e. c.in-Err-new.ensures.memory (ap Err e)) (λ e. c.in-Err-new.ensures.refused.0 (ap Err e)))
