use Rattle.groups.proofs.Dropped.{kept_apart}
use Rattle.groups.proofs.group.Group.drop_below.Goals as goal

pub invariant_of-self : goal.invariant_of-self
invariant_of-self g c =
    let f = c.self.inside in
    kept_apart g.T.Turns.turn_of c.args.bound c.drop_below.result f.members c.drop_below.new.self f.tray f.out c.drop_below.ensures.members c.drop_below.ensures.kept c.self.invariant
