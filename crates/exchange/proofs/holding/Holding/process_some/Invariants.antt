use Rattle.std.proofs.Common.{◌≡◌}
use Rattle.rollback.specs.ComponentView.{machine_of}
use Rattle.exchange.specs.LeaseView.{IsAhead}
use Rattle.exchange.specs.Windows.{KeepsWindow}
use Rattle.exchange.proofs.holding.Holding.process_some.Given as goal

abbrev pub invariant-loop-count : goal.invariant-loop-count
invariant-loop-count g l =
    record {
      ahead : IsAhead (machine_of g.T.Turns.turn_of l.initial.self.component.setup) l.initial.self l.self l.count;
      start : l.count ≡ 0 → l.self ≡ l.initial.self;
      window : KeepsWindow l.initial.self l.self;
    }
