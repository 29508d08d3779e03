use Rattle.std.proofs.Common.{refl, subst}
use Rattle.groups.specs.GroupView.{GroupView}
use Rattle.groups.specs.Moves.{IsSettled}
use Rattle.groups.specs.Windows.{KeepsWindow}
use Rattle.groups.proofs.Moved.{settled, with}
use Rattle.groups.proofs.Roomy.{room_kept, window_kept}
use Rattle.groups.proofs.group.Group.settle.Goals as goal

pub returns-clause-settled : goal.returns-clause-settled
returns-clause-settled g c =
    let t = g.T.Turns.turn_of in
    let f = c.self.inside in
    let own : GroupView _ = record { number = f.number; setup = f.members.setup; base = f.members.base; components = f.members.components; floor = f.floor; tray = f.tray; out = f.out; window = f.window } in
    let p = c.pass_all in
    subst (λ (v : GroupView _). IsSettled t v (with t own p.new.members p.new.sent p.new.out)) c.self.view_is (settled t own c.self.invariant.0 p.new.members p.new.sent p.new.out p.ensures.none p.ensures.passed)

pub returns-clause-window : goal.returns-clause-window
returns-clause-window g c =
    let t = g.T.Turns.turn_of in
    let f = c.self.inside in
    let own : GroupView _ = record { number = f.number; setup = f.members.setup; base = f.members.base; components = f.members.components; floor = f.floor; tray = f.tray; out = f.out; window = f.window } in
    let p = c.pass_all in
    let new = with t own p.new.members p.new.sent p.new.out in
    subst (λ (v : GroupView _). KeepsWindow v new) c.self.view_is (window_kept own new refl (room_kept f.window f.members.components p.new.members.components p.ensures.passed.turns))
