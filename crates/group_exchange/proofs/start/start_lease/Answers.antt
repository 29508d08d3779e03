use Rattle.std.proofs.Common.{◌<◌, rules, length, sym, subst, ◌∙◌}
use Rattle.std.specs.Arc.{arc_value}
use Rattle.plans.specs.Plans.{composition}
use Rattle.task_seed.specs.Setups.{plan_of}
use Rattle.virtual_time.specs.Machine.{HasCount, Lawful}
use Rattle.rollback.specs.ComponentView.{machine_of}
use Rattle.groups.specs.GroupView.{GroupView}
use Rattle.group_exchange.specs.ExchangeView.{group_at}
use Rattle.group_exchange.specs.Seen.{IsSoundLease}
use Rattle.group_exchange.specs.Start.{IsStarted}
use Rattle.group_exchange.proofs.Starting.{new_started, new_valid, started_anew}
use Rattle.group_exchange.specs.Windows.{KeepsToWindow}
use Rattle.group_exchange.proofs.Windowed.{new_within}
use Rattle.group_exchange.proofs.start.start_lease.Goals as goal

pub lease_of-lease-requires-clause-valid : goal.lease_of-lease-requires-clause-valid
lease_of-lease-requires-clause-valid g c = λ _ _.
    let t = g.T.Turns.turn_of in
    let setup = arc_value c.args.setup in
    let groups = c.args.groups.now in
    let n = length (composition (plan_of setup)) in
    let m = machine_of t setup in
    let law : Lawful m = subst (λ p. Lawful (machine_of t p)) c.deref.ensures c.machine_is_lawful.ensures.lawful in
    let counted : HasCount m n = subst (λ p. HasCount (machine_of t p) (length (composition (plan_of p)))) c.deref.ensures c.machine_is_lawful.ensures.counted in
    let made = c.in_ok-group.ensures in
    let group = c.in_ok-group.group in
    let window = c.args.window in
    let started = new_started t setup groups c.args.number group c.requires made.group.0 made.group.1 made.members made.lease in
    subst (λ (v : GroupView _). IsSoundLease t v) (sym c.set_window.ensures)
    (new_valid t setup groups c.args.number (record group { window = window }) (started_anew t setup groups c.args.number group window started) (c.group_exchange_is_sound.ensures.start m (group_at groups) n law counted).1)

pub lease_of-lease-requires-clause-within : goal.lease_of-lease-requires-clause-within
lease_of-lease-requires-clause-within g c = λ _ _.
    let t = g.T.Turns.turn_of in
    let setup = arc_value c.args.setup in
    let groups = c.args.groups.now in
    let n = length (composition (plan_of setup)) in
    let m = machine_of t setup in
    let law : Lawful m = subst (λ p. Lawful (machine_of t p)) c.deref.ensures c.machine_is_lawful.ensures.lawful in
    let counted : HasCount m n = subst (λ p. HasCount (machine_of t p) (length (composition (plan_of p)))) c.deref.ensures c.machine_is_lawful.ensures.counted in
    let made = c.in_ok-group.ensures in
    let group = c.in_ok-group.group in
    let window = c.args.window in
    let small : c.args.number < 65536 = search rules in
    let started = new_started t setup groups c.args.number group c.requires made.group.0 made.group.1 made.members made.lease in
    let sound = c.soundness_law.ensures.members in
    subst (λ (v : GroupView _). KeepsToWindow (machine_of t v.setup) (length (composition (plan_of v.setup))) v) (sym c.set_window.ensures)
    (new_within t setup groups c.args.number (record group { window = window }) law (c.group_window_law.ensures.start m (group_at groups)) c.requires small (started_anew t setup groups c.args.number group window started) sound.place sound.apart (c.group_exchange_is_sound.ensures.start m (group_at groups) n law counted).1)

pub returns-clause-lease : goal.returns-clause-lease
returns-clause-lease g c =
    let t = g.T.Turns.turn_of in
    let setup = arc_value c.args.setup in
    let groups = c.args.groups.now in
    let made = c.in_ok-group.ensures in
    let started = new_started t setup groups c.args.number c.in_ok-group.group c.requires made.group.0 made.group.1 made.members made.lease in
    subst (λ (v : GroupView _). IsStarted t setup groups c.args.number v) (sym (c.lease_of-lease.ensures ∙ c.set_window.ensures)) (started_anew t setup groups c.args.number c.in_ok-group.group c.args.window started)
