use Rattle.command_line.proofs.format.Goals as goal

pub returns : goal.returns
returns c = c.add_flag.ensures _ c.of_file-command.ensures
