use Rattle.std.proofs.Common.{◌≡◌, ◌++◌, map, drop}
use Rattle.conditions.specs.Branches.{test_tree}
use Rattle.conditions.proofs.branches.add_copies.Given as goal

abbrev pub invariant-loop-test : goal.invariant-loop-test
invariant-loop-test l =
    map test_tree l.tests.items ++ map test_tree (drop l.test-index l.more) ≡ map test_tree l.fn.tests.items ++ map test_tree l.more
