use Rattle.std.proofs.Common.{◌≡◌, ◌<◌, length, sym, ap, subst, ◌∙◌}
use Rattle.plans.specs.Plans.{composition}
use Rattle.task_seed.specs.Machines.{machine}
use Rattle.task_seed.specs.Setups.{plan_of, system}
use Rattle.task_seed.specs.Turning.{System}
use Rattle.virtual_time.specs.Machine.{Lawful}
use Rattle.virtual_time.specs.Exchange.Leases.{IsLease}
use Rattle.rollback.specs.ComponentView.{machine_of}
use Rattle.exchange.specs.LeaseView.{LeaseView, lease_of}
use Rattle.exchange.specs.Seen.{Knows}
use Rattle.exchange.specs.Windows.{IsInWindow, KeepsToWindow}
use Rattle.exchange.proofs.Windowed.{few_done, met_lease_within}
use Rattle.exchange.proofs.exchange.Exchange.accept.Goals as goal

pub invariant_of-lease : goal.invariant_of-lease
invariant_of-lease g c =
    let t = g.T.Turns.turn_of in
    let e = c.args.self.now in
    let l = c.lease.inside.holding in
    let new = c.take_in.new.holding in
    let s = system t e.setup in
    let m = machine s in
    let n = length s.composition in
    let same : s ≡ system t l.component.setup = c.requires.same ∙ sym (ap (λ (x : LeaseView _). system t x.component.setup) c.lease.view_is) in
    let law : Lawful m = subst (λ p. Lawful (machine (system t p))) c.setup.ensures c.machine_is_lawful.ensures.lawful in
    let lease : IsLease m l.component.number (lease_of l) = subst (λ x. IsLease (machine x) l.component.number (lease_of l)) (sym same) c.holding_law.ensures.lease in
    let there : l.component.number < n = subst (λ (x : System). l.component.number < length x.composition) (sym same) c.holding_law.ensures.there in
    let match : Knows t e l = subst (λ (x : LeaseView _). Knows t e x) (sym c.lease.view_is) c.requires.matches in
    let window : e.window ≡ l.window = c.requires.window ∙ sym (ap (λ (x : LeaseView _). x.window) c.lease.view_is) in
    let mine : IsInWindow n l = few_done m n l (subst (λ x. KeepsToWindow (machine x) (length x.composition) l) (sym same) c.lease.invariant) in
    let stays = c.take_in.ensures.same in
    let within = met_lease_within m law (c.window_law.ensures.meet m) n e c.take_in.new.self l new c.soundness_law.ensures.sound lease match c.take_in.ensures.met there window stays.1 stays.2 c.soundness_law.ensures.within mine in
    subst (λ p. KeepsToWindow (machine_of t p) (length (composition (plan_of p))) new) (sym stays.0) (subst (λ x. KeepsToWindow (machine x) (length x.composition) new) same within)
