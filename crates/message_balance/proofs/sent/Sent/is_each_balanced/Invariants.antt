use Rattle.std.proofs.Common.{◌≡◌, length}
use Rattle.std.specs.List.{list_all}
use Rattle.message_balance.specs.Balance.{is_sent_if_from}
use Rattle.message_balance.proofs.sent.Sent.is_each_balanced.Given as goal

abbrev pub invariant-loop-signed : goal.invariant-loop-signed
invariant-loop-signed l = list_all (is_sent_if_from l.self l.from) l.items ≡ list_all (is_sent_if_from l.self l.from) l.initial.items

abbrev pub decreases-loop-signed : goal.decreases-loop-signed
decreases-loop-signed l = length l.items
