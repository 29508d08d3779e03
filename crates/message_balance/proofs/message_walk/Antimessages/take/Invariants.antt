use Rattle.std.proofs.Common.{◌≡◌, ◌≤◌}
use Rattle.event_keys.specs.declared.message.Message.{Message}
use Rattle.message_balance.specs.Walks.{count_sendings, size_sendings}
use Rattle.message_balance.proofs.message_walk.Antimessages.take.Given as goal

abbrev pub invariant-loop-found : goal.invariant-loop-found
invariant-loop-found l =
    record {
      count : (m : Message) → count_sendings m l.self ≡ count_sendings m l.initial.self;
      short : size_sendings l.self ≤ size_sendings l.initial.self;
    }

abbrev pub decreases-loop-found : goal.decreases-loop-found
decreases-loop-found l = size_sendings l.self
