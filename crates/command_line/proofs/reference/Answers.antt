use Rattle.command_line.proofs.reference.Goals as goal

pub returns : goal.returns
returns c = c.add_options.ensures _ c.of_file-command.ensures
