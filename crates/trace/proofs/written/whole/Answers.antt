use Rattle.std.proofs.Common.{arith, rules, ap}
use Rattle.std.specs.Prelude.{Some}
use Rattle.std.specs.Int.{w64}
use Rattle.std.proofs.lemmas.Fmt.{parse-signed_decimal}
use Rattle.trace.proofs.Arguments.{parsed}
use Rattle.trace.proofs.Found.{other_texts}
use Rattle.trace.proofs.written.whole.Goals as goal

pub returns-in-Ok-clause-only : goal.returns-in-Ok-clause-only
returns-in-Ok-clause-only c n fits e =
    let same = parsed c.args.word.now c.parse.result c.in-Ok.value n fits e c.parse.ensures.value.0 c.in-Ok.is in
    ap Some (search (rules, same, fits))

pub returns-in_default-clause-only : goal.returns-in_default-clause-only
returns-in_default-clause-only c n fits e =
    let same = parsed c.args.word.now c.parse.result c.in-Ok.value n fits e c.parse.ensures.value.0 c.in-Ok.is in
    absurd (other_texts c.eq.result c.format.result.now c.args.word.now c.eq.ensures c.if-eq.false (search (rules, same, e)))

pub returns-in_default-2-clause-only : goal.returns-in_default-2-clause-only
returns-in_default-2-clause-only c n fits e =
    let read = parse-signed_decimal w64 n c.args.word.now c.parse.result fits (omega (arith, fits.sfits)) e c.parse.ensures.value.0 in cc
