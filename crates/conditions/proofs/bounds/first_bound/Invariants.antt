use Rattle.conditions.proofs.bounds.first_bound.Given as goal

abbrev pub invariant-loop-test : goal.invariant-loop-test
invariant-loop-test l = Unit {0}
