use Rattle.command_line.proofs.drawing.draw.Goals as goal

pub returns : goal.returns
returns c = c.add_ticks.ensures _ (c.add_turns-command.ensures _ c.of_file-command.ensures)
