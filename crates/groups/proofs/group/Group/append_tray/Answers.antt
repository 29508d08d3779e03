use Rattle.std.proofs.Common.{sym, subst}
use Rattle.groups.specs.GroupView.{GroupView}
use Rattle.groups.specs.Open.{AllInside}
use Rattle.groups.proofs.Passed.{inside_more}
use Rattle.groups.proofs.group.Group.append_tray.Goals as goal

pub invariant_of-self : goal.invariant_of-self
invariant_of-self g c =
    let f = c.self.inside in
    let cs = f.members.components in
    let more = subst (λ (v : GroupView _). AllInside v.components c.args.came.now) (sym c.self.view_is) c.requires in
    (subst (AllInside cs) (sym c.append.ensures.all) (inside_more cs c.args.came.now f.tray more c.self.invariant.0), c.self.invariant.1)
