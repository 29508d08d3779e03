use Rattle.std.proofs.Common.{◌+◌, ◌-◌, ◌*◌, ◌<◌, length, arith}
use Rattle.std.proofs.lemmas.List.Sums.{fold_more}
use Rattle.ioa_tokens.proofs.find.value_of.Goals as goal

pub loop-digit-preserved : goal.loop-digit-preserved
loop-digit-preserved c =
    let h : c.loop-digit.digit-index < length c.args.digits.now = omega arith in
    let more = fold_more (λ n d. 10 * n + (d - 48)) 0 c.args.digits.now c.loop-digit.digit-index 0 h in
    grind (arith, more)
