use Rattle.std.proofs.Common.{◌≡◌, ◌+◌, sym, subst}
use Rattle.std.specs.Arc.{arc_value}
use Rattle.groups.specs.GroupView.{GroupView}
use Rattle.group_exchange.specs.Seen.{StaysInWindow}
use Rattle.group_exchange.specs.Start.{AreStarted, IsStarted}
use Rattle.group_exchange.specs.Windows.{OfEachLease}
use Rattle.group_exchange.proofs.Starting.{none_started, started_more}
use Rattle.group_exchange.proofs.Windowed.{no_lease, one_more_lease}
use Rattle.group_exchange.proofs.start.start_leases.Goals as goal

pub loop-number-init : goal.loop-number-init
loop-number-init g c =
    let t = g.T.Turns.turn_of in
    let empty = sym c.new-leases.ensures.items in
    record {
      leases = subst (AreStarted t (arc_value c.args.setup.now) c.args.groups.now 0) empty (none_started t (arc_value c.args.setup.now) c.args.groups.now);
      window = subst (OfEachLease (λ (x : GroupView _). x.window ≡ c.args.window)) empty (no_lease (λ (x : GroupView _). x.window ≡ c.args.window));
      few = subst (OfEachLease StaysInWindow) empty (no_lease StaysInWindow);
    }

pub loop-number-preserved : goal.loop-number-preserved
loop-number-preserved g c =
    let t = g.T.Turns.turn_of in
    let setup = arc_value c.args.setup.now in
    let groups = c.args.groups.now in
    let l = c.loop-number in
    let lease = c.in_ok-start_lease.field-0 in
    let made = c.in_ok-start_lease.ensures in
    let is = subst (λ x. IsStarted t x groups l.number lease) c.in_ok-try_clone.ensures made.lease in
    record {
      leases = subst (AreStarted t setup groups (l.number + 1)) (sym c.in_ok-push.ensures.items) (started_more t setup groups l.number l.leases.items lease l.invariant.leases is);
      window = subst (OfEachLease (λ (x : GroupView _). x.window ≡ c.args.window)) (sym c.in_ok-push.ensures.items) (one_more_lease (λ (x : GroupView _). x.window ≡ c.args.window) l.leases.items lease l.invariant.window made.window);
      few = subst (OfEachLease StaysInWindow) (sym c.in_ok-push.ensures.items) (one_more_lease StaysInWindow l.leases.items lease l.invariant.few made.few);
    }
