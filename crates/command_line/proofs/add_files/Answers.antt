use Rattle.command_line.proofs.add_files.Goals as goal

pub returns : goal.returns
returns c app before =
    c.add_other.ensures _ (c.add_other-command-2.ensures _ (c.add_other-command.ensures app before))
