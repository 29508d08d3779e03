use Rattle.std.proofs.Common.{◌-◌, arith, length-set}
use Rattle.std.proofs.lemmas.Fmt.{length-decimal-le}
use Rattle.trace.proofs.line.write_number.Goals as goal

pub write_digits-requires : goal.write_digits-requires
write_digits-requires c =
    let short = length-decimal-le 20 c.args.number (omega arith) (omega arith) (omega arith) in
    (omega arith, omega (arith, length-set c.args.bytes.now (c.args.end - 1) 32))

pub returns-clause-short : goal.returns-clause-short
returns-clause-short c = omega (arith, length-decimal-le 20 c.args.number (omega arith) (omega arith) (omega arith))
