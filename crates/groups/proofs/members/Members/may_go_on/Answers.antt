use Rattle.std.proofs.Common.{subst}
use Rattle.groups.specs.Crew.{MembersView}
use Rattle.groups.specs.Windows.{MayGoOn}
use Rattle.groups.proofs.members.Members.may_go_on.Goals as goal

pub returns : goal.returns
returns g c =
    let t = g.T.Turns.turn_of in
    let r = c.first_may_go_on.result in
    subst (λ (v : MembersView _). MayGoOn t c.args.window r v.components) c.self.view_is (subst (MayGoOn t c.args.window r) c.deref.ensures.value c.first_may_go_on.ensures)
