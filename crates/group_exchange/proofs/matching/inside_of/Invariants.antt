use Rattle.group_exchange.proofs.Walked.{AreInsideYet}
use Rattle.group_exchange.proofs.matching.inside_of.Given as goal

abbrev pub invariant-loop-component : goal.invariant-loop-component
invariant-loop-component g l = AreInsideYet l.fn.components l.initial.sent l.component-index l.inside l.sent
