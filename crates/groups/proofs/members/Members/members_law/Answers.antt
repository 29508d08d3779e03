use Rattle.std.proofs.Common.{subst}
use Rattle.groups.specs.Crew.{AreSound}
use Rattle.groups.proofs.Kept.{sound}
use Rattle.groups.proofs.members.Members.members_law.Goals as goal

pub returns : goal.returns
returns g c =
    let f = c.self.inside in
    subst (AreSound g.T.Turns.turn_of) c.self.view_is (sound g.T.Turns.turn_of _ f.base f.components.items f.places.items f.seats.items c.self.invariant)
