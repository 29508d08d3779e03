use Rattle.std.proofs.Common.{◌≡◌, ◌+◌}
use Rattle.event_keys.specs.declared.message.Message.{Message}
use Rattle.message_balance.specs.Walks.{count_merged, size_merged}
use Rattle.message_balance.proofs.message_walk.same_messages_merged.Given as goal

abbrev pub invariant-loop-is_same : goal.invariant-loop-is_same
invariant-loop-is_same l = (m : Message) → count_merged m l.left + count_merged m l.initial.right ≡ count_merged m l.right + count_merged m l.initial.left

abbrev pub decreases-loop-is_same : goal.decreases-loop-is_same
decreases-loop-is_same l = size_merged l.left + size_merged l.right
