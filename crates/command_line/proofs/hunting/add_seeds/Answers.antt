use Rattle.command_line.proofs.Grown.{with_one}
use Rattle.command_line.proofs.hunting.add_seeds.Goals as goal

pub returns-in-Ok : goal.returns-in-Ok
returns-in-Ok c app before =
    with_one _ _ _ _ _ app _ c.in-Ok.is c.range.ensures.local c.range.ensures.rule c.arg.ensures before
