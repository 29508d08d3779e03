use Rattle.std.proofs.Common.{length, sym, subst}
use Rattle.plans.specs.Plans.{composition}
use Rattle.task_seed.specs.Setups.{plan_of}
use Rattle.virtual_time.specs.Machine.{Lawful}
use Rattle.virtual_time.specs.Exchange.Leases.{IsLease}
use Rattle.rollback.specs.ComponentView.{machine_of}
use Rattle.exchange.specs.Core.{deliveries}
use Rattle.exchange.specs.LeaseView.{LeaseView, lease_of}
use Rattle.exchange.specs.Seen.{MovesBy}
use Rattle.exchange.specs.Windows.{KeepsToWindow}
use Rattle.exchange.proofs.Windowed.{all_same, settled_within}
use Rattle.exchange.proofs.lease.Lease.settle.Goals as goal

pub invariant_of-self : goal.invariant_of-self
invariant_of-self g c =
    let t = g.T.Turns.turn_of in
    let own = c.self.inside.holding in
    let done = c.settle-count in
    let new = done.new.self in
    let m = machine_of t own.component.setup in
    let n = length (composition (plan_of own.component.setup)) in
    let law : Lawful m = subst (λ p. Lawful (machine_of t p)) c.setup.ensures c.machine_is_lawful.ensures.lawful in
    let same = all_same m law own.tray own new done.ensures.delivered in
    let lease : IsLease m new.component.number (lease_of new) = subst (λ p. IsLease (machine_of t p) new.component.number (lease_of new)) same.2 c.holding_law.ensures.lease in
    subst (λ p. KeepsToWindow (machine_of t p) (length (composition (plan_of p))) new) (sym same.2)
    (settled_within m law (c.window_law.ensures.start m) (c.window_law.ensures.settled m) (c.window_law.ensures.message m) (c.window_law.ensures.antimessage m) n own new done.ensures.delivered done.ensures.tray lease done.ensures.known c.self.invariant)

pub returns-clause-moves : goal.returns-clause-moves
returns-clause-moves g c =
    let done = c.settle-count in
    subst (λ (h : LeaseView _). MovesBy g.T.Turns.turn_of h (deliveries h.component.number h.tray) done.new.self) c.self.view_is done.ensures.moves
