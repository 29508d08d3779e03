use Rattle.std.proofs.Common.{add-one}
use Rattle.std.proofs.lemmas.List.{take_rest}
use Rattle.task_seed.proofs.FirstLine.{lines-at, lines-whole}
use Rattle.task_seed.proofs.lines.split_line.Goals as goal

pub returns-in-Some-clause-first : goal.returns-in-Some-clause-first
returns-in-Some-clause-first c =
    let found = c.in-Some.ensures.some in
    rw (take_rest, add-one) (lines-at c.args.text.now c.in-Some.end found.0 found.1 found.2)

pub returns-in-None-clause-first : goal.returns-in-None-clause-first
returns-in-None-clause-first c = lines-whole c.args.text.now c.requires c.in-None.ensures.none
