use Rattle.group_exchange.specs.Compared.{HasAll}
use Rattle.group_exchange.proofs.matching.has_all.Given as goal

abbrev pub invariant-loop-i : goal.invariant-loop-i
invariant-loop-i g l = HasAll l.groups l.group.number l.group.components l.i
