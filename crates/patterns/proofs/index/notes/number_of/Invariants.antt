use Rattle.std.proofs.Common.{◌≡◌, drop}
use Rattle.patterns.specs.Patterns.{values_of, pattern_number}
use Rattle.patterns.proofs.index.notes.number_of.Given as goal

abbrev pub invariant-loop-param : goal.invariant-loop-param
invariant-loop-param l = pattern_number l.number (values_of l.formals (drop l.param-index l.params)) ≡ pattern_number l.name (values_of l.formals l.params)
