use Rattle.std.proofs.Common.{◌≡◌, ℕ, [], drop}
use Rattle.event_keys.specs.declared.message.Sign.TheVariants.{Plus}
use Rattle.rollback.specs.Flight.{in_flight}
use Rattle.group_exchange.specs.Compared.{all_sent}
use Rattle.group_exchange.proofs.matching.sent_by.Given as goal

abbrev pub invariant-loop-component : goal.invariant-loop-component
invariant-loop-component g l =
    (j : ℕ) → all_sent g.T.Turns.turn_of (drop l.component-index l.fn.components) j (in_flight Plus j l.sent) ≡ all_sent g.T.Turns.turn_of l.fn.components j []
