use Rattle.command_line.proofs.explain.Goals as goal

pub returns : goal.returns
returns c = c.add_files.ensures _ c.of_file-command.ensures
