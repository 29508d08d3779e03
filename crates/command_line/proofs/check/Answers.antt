use Rattle.command_line.proofs.check.Goals as goal

pub returns : goal.returns
returns c = c.add_file.ensures _ c.of_file-command.ensures
