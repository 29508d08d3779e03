use Rattle.std.proofs.Common.{◌≡◌, ◌+◌}
use Rattle.event_keys.specs.declared.message.Message.{Message}
use Rattle.message_balance.specs.Walks.{count_source, size_source}
use Rattle.message_balance.proofs.message_walk.same_messages.Given as goal

abbrev pub invariant-loop-is_same : goal.invariant-loop-is_same
invariant-loop-is_same l = (m : Message) → count_source m l.left + count_source m l.initial.right ≡ count_source m l.right + count_source m l.initial.left

abbrev pub decreases-loop-is_same : goal.decreases-loop-is_same
decreases-loop-is_same l = size_source l.left + size_source l.right
