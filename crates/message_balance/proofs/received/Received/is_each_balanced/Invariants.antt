use Rattle.std.proofs.Common.{◌≡◌, length}
use Rattle.std.specs.List.{list_all}
use Rattle.message_balance.specs.Balance.{is_taken_if_to}
use Rattle.message_balance.proofs.received.Received.is_each_balanced.Given as goal

abbrev pub invariant-loop-signed : goal.invariant-loop-signed
invariant-loop-signed l = list_all (is_taken_if_to l.self l.to) l.items ≡ list_all (is_taken_if_to l.self l.to) l.initial.items

abbrev pub decreases-loop-signed : goal.decreases-loop-signed
decreases-loop-signed l = length l.items
