use Rattle.command_line.proofs.print.Goals as goal

pub returns : goal.returns
returns c = c.of_file.ensures
