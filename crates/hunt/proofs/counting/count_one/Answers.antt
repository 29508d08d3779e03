use Rattle.std.proofs.Common.{arith, subst}
use Rattle.std.specs.Prelude.{IfNone, IfSome}
use Rattle.hunt.specs.Seeds.{HasText, Lacks, hunted}
use Rattle.hunt.proofs.Parts.{count_has, count_lacks, count_none, has_any}
use Rattle.hunt.proofs.counting.count_one.Goals as goal

pub returns-in-Ok-Some-clause-count : goal.returns-in-Ok-Some-clause-count
returns-in-Ok-Some-clause-count c =
    let h = hunted c.args.source.now c.args.action.now c.args.course in
    let seed = c.args.seed in
    let has = subst (λ o. IfSome o (λ text. HasText h seed text.items)) c.in-Ok-Some.field-0-is c.in-Ok-Some.ensures.has in
    count_has h seed seed 0 (omega arith) (count_none h seed seed (omega arith)) (has_any h seed _ has)

pub returns-in-Ok-None-clause-count : goal.returns-in-Ok-None-clause-count
returns-in-Ok-None-clause-count c =
    let h = hunted c.args.source.now c.args.action.now c.args.course in
    let seed = c.args.seed in
    let lacks = subst (λ o. IfNone o (Lacks h seed)) c.in-Ok-None.field-0-is c.in-Ok-None.ensures.lacks in
    count_lacks h seed seed 0 (omega arith) (count_none h seed seed (omega arith)) lacks
