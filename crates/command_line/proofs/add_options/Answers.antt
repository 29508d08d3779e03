use Rattle.command_line.proofs.add_options.Goals as goal

pub returns : goal.returns
returns c app before =
    let drawn = c.add_turns-command.ensures app before in
    c.add_flag.ensures _ (c.add_flag-command-2.ensures _ (c.add_flag-command.ensures _ drawn))
