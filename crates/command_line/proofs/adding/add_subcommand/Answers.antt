use Rattle.command_line.proofs.Grown.{with_part}
use Rattle.command_line.proofs.adding.add_subcommand.Goals as goal

pub returns-in-Ok-subcommand : goal.returns-in-Ok-subcommand
returns-in-Ok-subcommand c app sub before inner plain =
    with_part _ _ _ _ _ _ app sub c.in-Ok.is c.in-Ok-subcommand.is c.subcommand.ensures before inner plain
