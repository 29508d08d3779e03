use Rattle.std.proofs.Common.{All, [], Some, length, map, refl, ap, sym, subst, ◌∙◌}
use Rattle.std.specs.Prelude.{Option}
use Rattle.std.specs.Arc.{arc_value}
use Rattle.plans.specs.Plans.{composition}
use Rattle.task_seed.specs.Setups.{plan_of}
use Rattle.virtual_time.specs.Machine.{HasCount, Lawful}
use Rattle.virtual_time.specs.Worlds.{start_world}
use Rattle.rollback.specs.ComponentView.{machine_of}
use Rattle.exchange.specs.declared.window.Window.{Window}
use Rattle.task_seed.specs.declared.setup.Setup.{Setup}
use Rattle.exchange.specs.LeaseView.{LeaseView}
use Rattle.exchange.specs.Seen.{StaysInWindow}
use Rattle.exchange.specs.Start.{number_of}
use Rattle.exchange.proofs.Starting.{numbers_started, stand_first}
use Rattle.exchange.proofs.Windowed.{started_within}
use Rattle.exchange.proofs.exchange.Exchange.with_window.Goals as goal

pub returns-clause-start : goal.returns-clause-start
returns-clause-start g c =
    let t = g.T.Turns.turn_of in
    let p = arc_value c.args.setup in
    let m = machine_of t p in
    let n = length (composition (plan_of p)) in
    let window : Option Window = Some (record { turns = c.args.window }) in
    let law : Lawful m = subst (λ x. Lawful (machine_of t x)) c.deref.ensures c.machine_is_lawful.ensures.lawful in
    let counted : HasCount m n = subst (λ x. HasCount (machine_of t x) (length (composition (plan_of x)))) c.deref.ensures c.machine_is_lawful.ensures.counted in
    let world = c.committed_is_reference.ensures.sound m n (start_world m) law (c.each_step_is_answered.ensures.reached m n (start_world m) [] law counted refl) in
    stand_first t p window world (c.exchange_is_sound.ensures.start m n law).1 (c.exchange_is_core.ensures.start m law) c.in_ok-exchange.exchange c.in_ok-exchange.ensures.exchange c.in_ok-exchange.leases.items c.in_ok-exchange.ensures.leases

pub returns-clause-numbers : goal.returns-clause-numbers
returns-clause-numbers g c =
    let p = arc_value c.args.setup in
    ap (map number_of) c.in_ok-exchange.ensures.leases ∙ numbers_started g.T.Turns.turn_of p (Some (record { turns = c.args.window })) 0 (length (composition (plan_of p)))

pub returns-clause-few : goal.returns-clause-few
returns-clause-few g c =
    let p = arc_value c.args.setup in
    subst (All (λ (h : LeaseView (Setup g.row.T.Denot)). StaysInWindow h)) (sym c.in_ok-exchange.ensures.leases) (started_within g.T.Turns.turn_of p (Some (record { turns = c.args.window })) 0 (length (composition (plan_of p))))
