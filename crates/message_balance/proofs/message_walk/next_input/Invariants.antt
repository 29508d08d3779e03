use Rattle.std.proofs.Common.{◌≡◌, ◌≤◌, length}
use Rattle.event_keys.specs.declared.message.Message.{Message}
use Rattle.message_balance.specs.Walks.{count_inputs}
use Rattle.message_balance.proofs.message_walk.next_input.Given as goal

abbrev pub invariant-loop-done : goal.invariant-loop-done
invariant-loop-done l =
    record {
      count : (m : Message) → count_inputs m l.items ≡ count_inputs m l.initial.items;
      short : length l.items ≤ length l.initial.items;
    }

abbrev pub decreases-loop-done : goal.decreases-loop-done
decreases-loop-done l = length l.items
