use Rattle.std.proofs.Common.{◌≡◌, ◌+◌}
use Rattle.event_keys.specs.declared.message.Message.{Message}
use Rattle.message_balance.specs.Walks.{count_source, size_source}
use Rattle.message_balance.proofs.message_walk.begins_with.Given as goal

abbrev pub invariant-loop-message : goal.invariant-loop-message
invariant-loop-message l = (m : Message) → count_source m l.initial.right + count_source m l.left ≡ count_source m l.initial.left + count_source m l.right

abbrev pub decreases-loop-message : goal.decreases-loop-message
decreases-loop-message l = size_source l.left
