use Rattle.std.proofs.Common.{◌≡◌, ap, refl, sym, subst, ◌∙◌, Some, length}
use Rattle.std.specs.Prelude.{slice_get}
use Rattle.std.specs.Arc.{arc_value}
use Rattle.std.proofs.lemmas.Option.{slice_get_read}
use Rattle.reference.specs.Queues.{rank_or_end}
use Rattle.task_seed.specs.Setups.{system}
use Rattle.sure_groups.specs.Packets.{ArePassed}
use Rattle.sure_groups.specs.Sure.{next_in}
use Rattle.sure_groups.specs.declared.bags.Bag.{Bag}
use Rattle.sure_groups.proofs.Posted.{posted}
use Rattle.sure_groups.proofs.group.SureGroup.post.Goals as goal

pub returns-clause-sure : goal.returns-clause-sure
returns-clause-sure g c =
    let x = c.args.self.now in
    let s = system g.T.Turns.turn_of (arc_value x.setup) in
    let within = c.in_ok-bag.ensures.item.3.0 in
    let after = c.replace-full.ensures.after in
    posted s x.hearing.groups.items x.hearing.me x.hearing.heard.items x.members.items _ x.until x.bags.items x.slots.items c.from.result c.replace-full.new.dest c.requires within
    (ap (λ (b : Bag). b.since) after ∙ c.next-until.ensures) (ap (λ (b : Bag). b.inputs.items) after ∙ c.new-inputs.ensures.items)

pub returns-clause-packet : goal.returns-clause-packet
returns-clause-packet g c =
    let x = c.args.self.now in
    let s = system g.T.Turns.turn_of (arc_value x.setup) in
    let bag = c.in_ok-bag.bag.now in
    let within = c.in_ok-bag.ensures.item.3.0 in
    let there : slice_get x.bags.items c.args.to ≡ Some bag = ap (slice_get x.bags.items) (sym c.from.ensures) ∙ slice_get_read x.bags.items (length x.bags.items) c.from.result bag refl within c.in_ok-bag.ensures.value in
    let passed = (c.requires.bags_are c.args.to bag there c.if-to-from.false).1 in
    let full = subst (λ (b : Bag). ArePassed s x.hearing.groups.items x.hearing.me c.args.to (rank_or_end b.since) (rank_or_end (next_in x)) b.inputs.items) (sym c.replace-full.ensures.value) passed in
    subst (λ k. ArePassed s x.hearing.groups.items x.hearing.me c.args.to (rank_or_end c.replace-full.result.since) (rank_or_end k) c.replace-full.result.inputs.items) (sym c.next-until.ensures) full
