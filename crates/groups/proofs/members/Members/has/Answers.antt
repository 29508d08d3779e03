use Rattle.std.proofs.Common.{◌≡◌, subst, ap, ◌∙◌}
use Rattle.groups.specs.Crew.{MembersView}
use Rattle.groups.specs.GroupView.{is_member}
use Rattle.groups.proofs.members.Members.has.Goals as goal

pub returns : goal.returns
returns g c =
    subst (λ (v : MembersView _). c.has_place.result ≡ is_member v.components c.args.number) c.self.view_is (c.has_place.ensures ∙ ap (λ xs. is_member xs c.args.number) c.deref.ensures.value)
