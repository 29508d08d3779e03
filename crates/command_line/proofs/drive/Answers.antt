use Rattle.command_line.proofs.drive.Goals as goal

pub returns : goal.returns
returns c = c.add_options.ensures _ (c.add_file-command.ensures _ c.of_file-command.ensures)
