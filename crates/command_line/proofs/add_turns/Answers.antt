use Rattle.command_line.proofs.add_turns.Goals as goal

pub returns : goal.returns
returns c app before =
    let drawn = c.add_draws-command.ensures _ (c.add_number-command.ensures app before _ c.value_parser-whole.ensures) in
    c.add_other.ensures _ drawn
