use Rattle.std.proofs.Common.{◌≡◌}
use Rattle.std.specs.Arc.{arc_value}
use Rattle.groups.specs.GroupView.{GroupView}
use Rattle.group_exchange.specs.Seen.{StaysInWindow}
use Rattle.group_exchange.specs.Start.{AreStarted}
use Rattle.group_exchange.specs.Windows.{OfEachLease}
use Rattle.group_exchange.proofs.start.start_leases.Given as goal

abbrev pub invariant-loop-number : goal.invariant-loop-number
invariant-loop-number g l =
    record {
      leases : AreStarted g.T.Turns.turn_of (arc_value l.setup) l.groups l.number l.leases.items;
      window : OfEachLease (λ (lease : GroupView _). lease.window ≡ l.window) l.leases.items;
      few : OfEachLease StaysInWindow l.leases.items;
    }
