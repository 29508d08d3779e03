use Rattle.std.proofs.Common.{◌≡◌, length}
use Rattle.rollback.specs.ComponentView.{machine_of}
use Rattle.exchange.specs.LeaseView.{LeaseView, AllDelivered, IsCount}
use Rattle.exchange.proofs.holding.Holding.deliver_all.Given as goal

abbrev pub invariant-loop-count : goal.invariant-loop-count
invariant-loop-count g l =
    let m = machine_of g.T.Turns.turn_of l.initial.self.component.setup in
    record {
      setup : l.self.component.setup ≡ l.initial.self.component.setup;
      rest : (end : LeaseView _) → AllDelivered m l.self l.self.tray end → AllDelivered m l.initial.self l.initial.self.tray end;
      count : IsCount l.initial.self.tray l.self.tray l.count;
    }

abbrev pub decreases-loop-count : goal.decreases-loop-count
decreases-loop-count g l = length l.self.tray
