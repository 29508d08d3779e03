use Rattle.std.proofs.Common.{arith, rules}
use Rattle.conditions.proofs.Staging.{within_next}
use Rattle.conditions.proofs.stages.last_of.Goals as goal

pub loop-test-preserved : goal.loop-test-preserved
loop-test-preserved c k h w =
    c.loop-test.invariant k (omega (arith, h, c.highest-last.ensures)) (within_next k c.loop-test.test-index c.args.tests.now c.test-item.result (search rules) c.test-item.is (omega (arith, h, c.highest-last.ensures, c.in_ok-reach_of.ensures)) w)
