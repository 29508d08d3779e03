use Rattle.std.proofs.Common.{drop}
use Rattle.group_exchange.specs.Compared.{AllIn}
use Rattle.group_exchange.proofs.matching.are_in.Given as goal

abbrev pub invariant-loop-component : goal.invariant-loop-component
invariant-loop-component g l = AllIn l.groups l.number (drop l.component-index l.fn.components) → AllIn l.groups l.number l.fn.components
