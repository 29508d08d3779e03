use Rattle.std.proofs.Common.{◌≡◌, ◌++◌, drop}
use Rattle.group_exchange.proofs.start.listed.Given as goal

abbrev pub invariant-loop-number : goal.invariant-loop-number
invariant-loop-number l = l.list.items ++ drop l.number-index l.fn.numbers ≡ l.fn.numbers
