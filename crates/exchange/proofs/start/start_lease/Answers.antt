use Rattle.std.proofs.Common.{length, refl, sym, subst}
use Rattle.std.specs.Arc.{arc_value}
use Rattle.plans.specs.Plans.{composition}
use Rattle.task_seed.specs.Setups.{plan_of, system}
use Rattle.task_seed.specs.Machines.{machine}
use Rattle.virtual_time.specs.Machine.{Lawful}
use Rattle.rollback.specs.ComponentView.{machine_of}
use Rattle.exchange.specs.LeaseView.{LeaseView}
use Rattle.exchange.specs.Start.{start_within}
use Rattle.exchange.specs.Windows.{KeepsToWindow}
use Rattle.exchange.proofs.Starting.{lease_seen}
use Rattle.exchange.proofs.Windowed.{lease_within}
use Rattle.exchange.proofs.start.start_lease.Goals as goal

pub invariant_of-result : goal.invariant_of-result
invariant_of-result g c =
    let t = g.T.Turns.turn_of in
    let p = arc_value c.args.setup in
    let s = system t p in
    let i = c.args.i in
    let law : Lawful (machine s) = subst (λ x. Lawful (machine (system t x))) c.deref.ensures c.machine_is_lawful.ensures.lawful in
    let start = c.exchange_is_sound.ensures.start (machine s) 0 law in
    let own : LeaseView _ = start_within t p c.args.window i in
    subst (λ (h : LeaseView _). KeepsToWindow (machine_of t h.component.setup) (length (composition (plan_of h.component.setup))) h) (sym c.in_ok-holding.ensures)
    (lease_within (machine s) law (c.window_law.ensures.start (machine s)) (length (composition (plan_of p))) own i refl (lease_seen s own c.requires refl refl refl refl refl) (start.1 i).1)
