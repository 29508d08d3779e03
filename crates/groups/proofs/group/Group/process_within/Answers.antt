use Rattle.std.proofs.Common.{◌≡◌, true, ap, sym, subst}
use Rattle.virtual_time.specs.Machine.{Lawful}
use Rattle.rollback.specs.ComponentView.{machine_of}
use Rattle.groups.specs.Crew.{MembersView}
use Rattle.groups.specs.GroupView.{GroupView}
use Rattle.groups.specs.Moves.{IsSteppedWithin}
use Rattle.groups.specs.Windows.{KeepRoom, lets_through}
use Rattle.groups.proofs.Moved.{none_inside, outside_on, stepped_on, with}
use Rattle.groups.proofs.Roomy.{next_kept, room_then}
use Rattle.groups.proofs.group.Group.process_within.Goals as goal

pub invariant_of-self-2 : goal.invariant_of-self-2
invariant_of-self-2 g c =
    let t = g.T.Turns.turn_of in
    let f = c.self.inside in
    let own : GroupView _ = record { number = f.number; setup = f.members.setup; base = f.members.base; components = f.members.components; floor = f.floor; tray = f.tray; out = f.out; window = f.window } in
    let law : Lawful (machine_of t f.members.setup) = subst (λ p. Lawful (machine_of t p)) c.setup.ensures c.machine_is_lawful.ensures.lawful in
    let p = c.pass_all in (
      none_inside p.new.members.components p.new.sent p.ensures.none,
      outside_on t own c.self.invariant.0 c.args.window c.process.new.self p.new.members c.process.new.sent p.new.sent p.new.out law c.members_law.ensures c.in_ok-key.ensures.done p.ensures.passed c.self.invariant.1,
    )

pub returns-clause-step : goal.returns-clause-step
returns-clause-step g c =
    let t = g.T.Turns.turn_of in
    let f = c.self.inside in
    let own : GroupView _ = record { number = f.number; setup = f.members.setup; base = f.members.base; components = f.members.components; floor = f.floor; tray = f.tray; out = f.out; window = f.window } in
    let law : Lawful (machine_of t f.members.setup) = subst (λ p. Lawful (machine_of t p)) c.setup.ensures c.machine_is_lawful.ensures.lawful in
    let p = c.pass_all in
    subst (λ (v : GroupView _). IsSteppedWithin t c.args.window v (with t own p.new.members p.new.sent p.new.out)) c.self.view_is
    (stepped_on t own c.self.invariant.0 c.args.window c.process.new.self p.new.members c.process.new.sent p.new.sent p.new.out law c.members_law.ensures c.in_ok-key.ensures.done p.ensures.none p.ensures.passed)

pub returns-clause-within : goal.returns-clause-within
returns-clause-within g c =
    let t = g.T.Turns.turn_of in
    let f = c.self.inside in
    let mid = c.process.new.self in
    let d = c.in_ok-key.ensures.done in
    let p = c.pass_all in
    let room = subst (λ o. lets_through c.args.window d.c.history.done o ≡ true) (sym d.next) d.room in
    subst (λ (v : GroupView _). KeepRoom c.args.window v.components p.new.members.components) c.self.view_is
    (room_then c.args.window f.members.components mid.components p.new.members.components (next_kept t c.args.window f.members.components mid.components d.place d.c d.there room (ap (λ (v : MembersView _). v.components) d.becomes)) p.ensures.passed.turns)
