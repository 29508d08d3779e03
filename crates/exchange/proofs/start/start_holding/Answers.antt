use Rattle.std.proofs.Common.{length, refl, sym, ap, subst, ◌∙◌}
use Rattle.std.specs.Arc.{arc_value}
use Rattle.plans.specs.Plans.{composition}
use Rattle.task_seed.specs.Setups.{plan_of, system}
use Rattle.task_seed.specs.Machines.{machine}
use Rattle.virtual_time.specs.Machine.{Lawful}
use Rattle.rollback.specs.ComponentView.{ComponentView, machine_of, start_record, lowest_bound}
use Rattle.exchange.specs.Start.{first_bound}
use Rattle.exchange.specs.LeaseView.{IsValidLease}
use Rattle.exchange.proofs.Starting.{holding_kept}
use Rattle.exchange.proofs.start.start_holding.Goals as goal

pub invariant_of-result : goal.invariant_of-result
invariant_of-result g c =
    let t = g.T.Turns.turn_of in
    let p = arc_value c.args.setup in
    let s = system t p in
    let i = c.args.i in
    let start = c.exchange_is_sound.ensures.start (machine s) 0 (subst (λ x. Lawful (machine (system t x))) c.deref.ensures c.machine_is_lawful.ensures.lawful) in
    let is = c.in_ok-component.ensures in
    let own : ComponentView _ = record { setup = p; number = i; base = lowest_bound; history = start_record (machine_of t p) i } in
    subst (λ (x : ComponentView _). IsValidLease (machine_of t x.setup) (length (composition (plan_of x.setup))) (record { component = x; tray = c.new-2.result; out = c.new-3.result; copies = c.new-4.result; floor = c.first_bound-floor.result; window = c.args.window })) (sym is)
    (holding_kept s (record { component = own; tray = c.new-2.result; out = c.new-3.result; copies = c.new-4.result; floor = c.first_bound-floor.result; window = c.args.window }) c.requires refl refl c.new-2.ensures c.new-3.ensures c.new-4.ensures
    (c.first_bound-floor.ensures ∙ ap (λ x. first_bound (system t x) i) c.deref-2.ensures) (start.1 i))
