use Rattle.std.proofs.Common.{◌≡◌, drop}
use Rattle.patterns.specs.Patterns.{masked, pattern_number}
use Rattle.patterns.proofs.index.number_of.Given as goal

abbrev pub invariant-loop-k : goal.invariant-loop-k
invariant-loop-k l = pattern_number l.number (masked (drop l.k l.mask) (drop l.k l.args)) ≡ pattern_number l.name (masked l.mask l.args)
