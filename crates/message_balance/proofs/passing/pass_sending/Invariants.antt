use Rattle.std.proofs.Common.{◌≡◌, count_by, length}
use Rattle.message_balance.specs.Balance.{is_sending_of}
use Rattle.message_balance.proofs.passing.pass_sending.Given as goal

abbrev pub invariant-loop-done : goal.invariant-loop-done
invariant-loop-done l = count_by (is_sending_of l.message) l.items ≡ count_by (is_sending_of l.message) l.initial.items

abbrev pub decreases-loop-done : goal.decreases-loop-done
decreases-loop-done l = length l.items
