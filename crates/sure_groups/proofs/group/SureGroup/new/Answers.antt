use Rattle.std.proofs.Common.{◌≡◌, ℕ, List, [], Some, ap, subst, sym, ◌∙◌}
use Rattle.std.specs.Prelude.{length, slice_get}
use Rattle.std.specs.Arc.{arc_value}
use Rattle.io_automata.specs.Steps.{start_of}
use Rattle.lone_group.specs.declared.batch.Slot.{Slot}
use Rattle.plans.specs.Plans.{composition}
use Rattle.senders.specs.Senders.{lists_of}
use Rattle.shares.specs.declared.share.Own.{Own}
use Rattle.task_seed.specs.Setups.{plan_of, system}
use Rattle.sure_groups.specs.Sure.{AreSure}
use Rattle.sure_groups.specs.declared.member.Member.{Member}
use Rattle.sure_groups.proofs.Starting.{started}
use Rattle.sure_groups.proofs.group.SureGroup.new.Goals as goal

pub returns-clause-sure : goal.returns-clause-sure
returns-clause-sure g c =
    let s = system g.T.Turns.turn_of (arc_value c.args.setup) in
    let groups = c.args.place.groups.items in
    let heard = c.in_ok-heard.heard.items in
    let members = c.in_ok-members.members.items in
    let bags = c.in_ok-bags.bags.items in
    let plan : composition c.plan.result.now ≡ s.composition = ap composition c.plan.ensures ∙ ap (λ u. composition (plan_of u)) c.deref.ensures in
    let many : length members ≡ length s.composition = c.in_ok-members.ensures.many ∙ ap length plan in
    let states = subst (λ k. (j : ℕ) (member : Member) → slice_get members j ≡ Some member → member.state.current ≡ start_of k j) plan c.in_ok-members.ensures.state in
    let are = started s groups c.args.place.me c.args.place.count c.args.first heard c.requires.first c.in_ok-heard.ensures.many c.in_ok-heard.ensures.each c.requires.below c.requires.own (lists_of c.args.senders.now) members bags c.requires.senders c.requires.every many
    states c.in_ok-members.ensures.plain c.in_ok-members.ensures.blank c.in_ok-members.ensures.none c.in_ok-bags.ensures.many c.in_ok-bags.ensures.each in
    subst (λ (own : List Own). AreSure s groups heard c.args.place.me members own c.args.first bags c.new-2.result.items) (sym c.new.ensures.items) (subst (λ (slots : List Slot). AreSure s groups heard c.args.place.me members [] c.args.first bags slots) (sym c.new-2.ensures.items) are)
