use Rattle.std.proofs.Common.{◌≡◌, ◌*◌, drop}
use Rattle.io_automata.specs.Tuples.{many}
use Rattle.outcomes.proofs.tuples.count_all.Given as goal

abbrev pub invariant-loop-param : goal.invariant-loop-param
invariant-loop-param l = l.count * many (drop l.param-index l.params) ≡ many l.params
