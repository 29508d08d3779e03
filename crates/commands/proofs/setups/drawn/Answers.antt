use Rattle.std.proofs.Common.{ap, sym, subst}
use Rattle.std.specs.Prelude.{Err}
use Rattle.task_seed.specs.declared.seed_turns.SeedTurnsError.TheVariants.{GapOutOfRange}
use Rattle.commands.specs.Parts.{IsMemory, IsRefusal}
use Rattle.commands.specs.Setups.{IsBadGap, least_gap}
use Rattle.commands.proofs.SetupReports.{gap_refused, gap_within, no_error, seeds_are}
use Rattle.commands.proofs.setups.drawn.Goals as goal

pub returns-in-Ok-clause-ok : goal.returns-in-Ok-clause-ok
returns-in-Ok-clause-ok c =
    seeds_are c.args.gap c.gap_of.result c.gap_of.ensures.same c.gap_of.ensures.large c.args.seed c.args.stream (least_gap c.args.from_zero) c.in-Ok.turns c.in-Ok.ensures.turns (λ wide. no_error c.in-Ok.turns GapOutOfRange (c.in-Ok.ensures.refused.1 wide))

pub returns-in-Ok-clause-within : goal.returns-in-Ok-clause-within
returns-in-Ok-clause-within c = gap_within c.args.gap c.gap_of.result c.gap_of.ensures.same c.gap_of.ensures.large (λ wide. no_error c.in-Ok.turns GapOutOfRange (c.in-Ok.ensures.refused.1 wide))

pub returns-in-Err-clause-err : goal.returns-in-Err-clause-err
returns-in-Err-clause-err c =
    subst (IsRefusal (IsBadGap c.args.gap) IsMemory) (sym c.report_of.ensures)
    (gap_refused c.args.gap c.gap_of.result c.gap_of.ensures.same c.gap_of.ensures.large c.in-Err.refused (λ e. c.in-Err.ensures.memory (ap Err e)) (λ e. c.in-Err.ensures.refused.0 (ap Err e)))
