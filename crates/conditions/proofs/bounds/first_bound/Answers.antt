use Rattle.std.proofs.Common.{rules}
use Rattle.conditions.proofs.Bounding.{one_binds}
use Rattle.conditions.proofs.bounds.first_bound.Goals as goal

pub returns-in-Some : goal.returns-in-Some
returns-in-Some c =
    one_binds c.args.p c.loop-test.test-index c.args.tests.now c.test-item.result c.in_ok-bound.field-0 c.in-Some.bound (search rules) c.test-item.is c.in-Some.is c.in_ok-bound.ensures.says c.in_ok-bound.ensures.is
