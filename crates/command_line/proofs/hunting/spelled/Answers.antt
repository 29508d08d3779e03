use Rattle.std.proofs.lemmas.Fmt.{parse-decimal}
use Rattle.command_line.proofs.Ranges.{same_text}
use Rattle.command_line.proofs.hunting.spelled.Goals as goal

pub returns-in-Ok-clause-only : goal.returns-in-Ok-clause-only
returns-in-Ok-clause-only c n small e =
    let read = parse-decimal 64 n c.args.word.now c.parse.result small small e c.parse.ensures.value.0 in cc

pub returns-in_default-clause-only : goal.returns-in_default-clause-only
returns-in_default-clause-only c n small e =
    let read = parse-decimal 64 n c.args.word.now c.parse.result small small e c.parse.ensures.value.0 in
    let same = same_text c.format.result.now c.args.word.now (cc) in cc

pub returns-in_default-2-clause-only : goal.returns-in_default-2-clause-only
returns-in_default-2-clause-only c n small e =
    let read = parse-decimal 64 n c.args.word.now c.parse.result small small e c.parse.ensures.value.0 in cc
