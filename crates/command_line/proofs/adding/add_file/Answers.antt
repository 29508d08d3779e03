use Rattle.command_line.proofs.Grown.{with_one}
use Rattle.command_line.proofs.adding.add_file.Goals as goal

pub returns-in-Ok : goal.returns-in-Ok
returns-in-Ok c app before =
    with_one _ _ _ _ _ app _ c.in-Ok.is c.file.ensures.local c.file.ensures.rule c.arg.ensures before
