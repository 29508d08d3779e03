use Rattle.std.proofs.Common.{◌≡◌, ◌<◌, None, rules, refl, sym, subst, ap, ◌∙◌}
use Rattle.std.specs.Arc.{arc_value}
use Rattle.virtual_time.specs.Machine.{Lawful}
use Rattle.virtual_time.specs.Groups.Leases.{start_lease}
use Rattle.rollback.specs.ComponentView.{lowest_bound, machine_of}
use Rattle.groups.specs.Crew.{MembersView}
use Rattle.groups.specs.GroupView.{AreMembers, count_of, group_in, lease_of, least_next, start_components}
use Rattle.groups.proofs.Starting.{lease_start, members_start}
use Rattle.groups.proofs.group.Group.new.Goals as goal

pub returns-clause-members : goal.returns-clause-members
returns-clause-members g c =
    let t = g.T.Turns.turn_of in
    let setup = arc_value c.args.setup in
    let small : c.args.number < 65536 = search rules in
    subst (λ (v : MembersView _). AreMembers (group_in (count_of setup) c.args.group_of.now) c.args.number v.components) (sym c.in_ok-members.ensures) (members_start t setup c.args.group_of.now (count_of setup) c.args.number small)

pub returns-clause-lease : goal.returns-clause-lease
returns-clause-lease g c =
    let t = g.T.Turns.turn_of in
    let setup = arc_value c.args.setup in
    let group = group_in (count_of setup) c.args.group_of.now in
    let number = c.args.number in
    let law : Lawful (machine_of t setup) = subst (λ p. Lawful (machine_of t p)) c.deref.ensures c.machine_is_lawful.ensures.lawful in
    let is = c.in_ok-members.ensures in
    let floor = c.next-floor.ensures ∙ ap (λ (v : MembersView _). least_next t v.setup v.components) is in
    subst (λ (v : MembersView _). lease_of (machine_of t v.setup) (record { number = number; setup = v.setup; base = v.base; components = v.components; floor = c.next-floor.result; tray = c.new-2.result; out = c.new-3.result; window = None }) ≡ start_lease (machine_of t setup) group (count_of setup) number) (sym is)
    (lease_start t setup group number law (count_of setup) (record { number = number; setup = setup; base = lowest_bound; components = start_components t setup group (count_of setup) number; floor = c.next-floor.result; tray = c.new-2.result; out = c.new-3.result; window = None }) refl refl c.new-2.ensures c.new-3.ensures floor)
