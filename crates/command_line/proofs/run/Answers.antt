use Rattle.command_line.proofs.run.Goals as goal

pub returns : goal.returns
returns c = c.add_crew.ensures _ (c.add_options-command.ensures _ c.of_file-command.ensures)
