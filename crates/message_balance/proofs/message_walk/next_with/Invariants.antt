use Rattle.std.proofs.Common.{◌≡◌, ◌≤◌, length}
use Rattle.event_keys.specs.declared.message.Message.{Message}
use Rattle.message_balance.specs.Balance.{count_as}
use Rattle.message_balance.proofs.message_walk.next_with.Given as goal

abbrev pub invariant-loop-signed : goal.invariant-loop-signed
invariant-loop-signed l =
    record {
      count : (m : Message) → count_as l.sign m l.items ≡ count_as l.sign m l.initial.items;
      short : length l.items ≤ length l.initial.items;
    }

abbrev pub decreases-loop-signed : goal.decreases-loop-signed
decreases-loop-signed l = length l.items
