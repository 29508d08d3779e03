use Rattle.std.proofs.Common.{◌≡◌, length}
use Rattle.message_balance.specs.Balance.{count_as}
use Rattle.message_balance.proofs.passing.pass_one.Given as goal

abbrev pub invariant-loop-signed : goal.invariant-loop-signed
invariant-loop-signed l = count_as l.sign l.message l.items ≡ count_as l.sign l.message l.initial.items

abbrev pub decreases-loop-signed : goal.decreases-loop-signed
decreases-loop-signed l = length l.items
