use Rattle.std.proofs.Common.{subst}
use Rattle.groups.specs.Crew.{AreSound}
use Rattle.groups.specs.GroupView.{GroupView}
use Rattle.groups.specs.Open.{AllInside, AllOutside}
use Rattle.groups.proofs.group.Group.soundness_law.Goals as goal

pub returns-clause-members : goal.returns-clause-members
returns-clause-members g c =
    let t = g.T.Turns.turn_of in
    subst (λ (v : GroupView _). AreSound t (record { setup = v.setup; base = v.base; components = v.components })) c.self.view_is c.members_law.ensures

pub returns-clause-tray : goal.returns-clause-tray
returns-clause-tray g c = subst (λ (v : GroupView _). AllInside v.components v.tray) c.self.view_is c.self.invariant.0

pub returns-clause-out : goal.returns-clause-out
returns-clause-out g c = subst (λ (v : GroupView _). AllOutside v.components v.out) c.self.view_is c.self.invariant.1
