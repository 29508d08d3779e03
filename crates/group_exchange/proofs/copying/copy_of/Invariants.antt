use Rattle.std.proofs.Common.{◌≡◌, [], filter, length}
use Rattle.antimessage.specs.Bags.{insert_all}
use Rattle.group_exchange.specs.Moving.{is_message}
use Rattle.group_exchange.proofs.copying.copy_of.Given as goal

abbrev pub invariant-loop-signed : goal.invariant-loop-signed
invariant-loop-signed l = insert_all (filter is_message l.items) l.copies ≡ insert_all (filter is_message l.fn.sent) []

abbrev pub decreases-loop-signed : goal.decreases-loop-signed
decreases-loop-signed l = length l.items
