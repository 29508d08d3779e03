use Rattle.gvt.specs.Least.{IsLeast}
use Rattle.gvt.proofs.least.least_bound.Given as goal

abbrev pub invariant-loop-bound : goal.invariant-loop-bound
invariant-loop-bound g l = IsLeast l.yielded l.least
