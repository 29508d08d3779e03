use Rattle.command_line.proofs.hunting.hunt.Goals as goal

pub returns : goal.returns
returns c =
    let named = c.add_file-command.ensures _ c.of_file-command.ensures in
    c.add_hunters.ensures _ (c.add_draws-command.ensures _ (c.add_seeds.ensures _ named))
