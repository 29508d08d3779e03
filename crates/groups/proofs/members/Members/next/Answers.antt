use Rattle.std.proofs.Common.{◌≡◌, subst, ap, ◌∙◌}
use Rattle.std.specs.Arc.{arc_value}
use Rattle.event_keys.specs.Ranks.{rank_of_bound}
use Rattle.groups.specs.Crew.{MembersView}
use Rattle.groups.specs.GroupView.{least_next}
use Rattle.groups.proofs.members.Members.next.Goals as goal

pub returns : goal.returns
returns g c =
    let t = g.T.Turns.turn_of in
    let setup = arc_value c.self.inside.setup in
    subst (λ (v : MembersView _). rank_of_bound c.least_bound.result ≡ least_next t v.setup v.components) c.self.view_is (c.least_bound.ensures setup ∙ ap (least_next t setup) c.deref.ensures.value)
