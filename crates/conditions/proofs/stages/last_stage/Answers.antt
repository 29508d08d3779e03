use Rattle.std.proofs.Common.{arith, rules}
use Rattle.conditions.proofs.Staging.{all_within_next}
use Rattle.conditions.proofs.stages.last_stage.Goals as goal

pub loop-tests-preserved : goal.loop-tests-preserved
loop-tests-preserved c k h w =
    c.loop-tests.invariant k (omega (arith, h, c.highest-last.ensures)) (all_within_next k c.in_ok-last_of.field-0 c.loop-tests.tests-index c.args.branches.now c.tests-item.result (search rules) c.tests-item.is (search rules) (omega (arith, h, c.highest-last.ensures)) w)
