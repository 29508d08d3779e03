use Rattle.std.proofs.lemmas.Bool.{both_ways}
use Rattle.std.proofs.lemmas.Result.{IfErr-weaker, IfOk-weaker}
use Rattle.trace.proofs.OneVersion.{other_fault, other_gives, second_fault, second_gives}
use Rattle.trace.proofs.file.read_trace.Goals as goal

pub returns-then-is_version_two-clause-ok : goal.returns-then-is_version_two-clause-ok
returns-then-is_version_two-clause-ok c =
    let second = c.is_version_two.ensures.0 c.if-is_version_two.true in
    IfOk-weaker c.read_in_order.result _ _ (λ actions h. second_gives c.args.plan.now c.args.bytes.now actions.items second h) c.read_in_order.ensures.ok

pub returns-then-is_version_two-clause-err : goal.returns-then-is_version_two-clause-err
returns-then-is_version_two-clause-err c =
    let second = c.is_version_two.ensures.0 c.if-is_version_two.true in
    IfErr-weaker c.read_in_order.result _ _ (λ error h. second_fault c.args.plan.now c.args.bytes.now error second h) c.read_in_order.ensures.err

pub returns-else-is_version_two-clause-ok : goal.returns-else-is_version_two-clause-ok
returns-else-is_version_two-clause-ok c =
    IfOk-weaker c.read_lines.result _ _
    (λ actions h. other_gives c.args.plan.now c.args.bytes.now actions.items (λ second. both_ways c.is_version_two.result c.if-is_version_two.false (c.is_version_two.ensures.1 second)) h) c.read_lines.ensures.ok

pub returns-else-is_version_two-clause-err : goal.returns-else-is_version_two-clause-err
returns-else-is_version_two-clause-err c =
    IfErr-weaker c.read_lines.result _ _
    (λ error h. other_fault c.args.plan.now c.args.bytes.now error (λ second. both_ways c.is_version_two.result c.if-is_version_two.false (c.is_version_two.ensures.1 second)) h) c.read_lines.ensures.err
