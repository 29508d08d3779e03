use Rattle.std.proofs.Common.{◌≡◌, replicate}
use Rattle.evaluation.proofs.parts.repeated.Given as goal

abbrev pub invariant-loop-k : goal.invariant-loop-k
invariant-loop-k l = l.copies.items ≡ replicate l._k l.value
