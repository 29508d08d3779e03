use Rattle.std.proofs.Common.{◌≡◌, sym, subst, ◌∙◌}
use Rattle.std.specs.Arc.{arc_value}
use Rattle.std.specs.Vec.{with_items}
use Rattle.std.proofs.lemmas.List.{with_items_is}
use Rattle.groups.specs.Crew.{AreValidMembers, MembersView}
use Rattle.groups.specs.Open.{HasCome, IsDelivered}
use Rattle.groups.proofs.Kept.{come_done, come_valid}
use Rattle.groups.proofs.members.Members.deliver.Goals as goal

pub invariant_of-self : goal.invariant_of-self
invariant_of-self g c =
    let t = g.T.Turns.turn_of in
    let f = c.self.inside in
    let p = c.deliver_placed-taken_back in
    let xs = p.new.components in
    let ss = p.new.seats in
    let came = subst (λ ys. HasCome t c.args.cell p.result ys c.args.sent.now xs p.new.sent) c.deref_mut.ensures.value p.ensures.came in
    let items : (with_items f.components xs).items ≡ xs = with_items_is f.components xs (p.auto.components ∙ c.deref_mut.ensures.len) in
    let seats : (with_items f.seats ss).items ≡ ss = with_items_is f.seats ss (p.auto.seats ∙ c.deref_mut-2.ensures.len) in
    subst (λ ys. AreValidMembers t (arc_value f.setup) f.base ys f.places.items (with_items f.seats ss).items) (sym items)
    (subst (λ ys. AreValidMembers t (arc_value f.setup) f.base xs f.places.items ys) (sym seats)
    (come_valid t (arc_value f.setup) f.base f.components.items f.places.items f.seats.items c.self.invariant c.args.cell p.result c.args.sent.now xs p.new.sent ss came p.ensures.seated))

pub returns-clause-came : goal.returns-clause-came
returns-clause-came g c =
    let t = g.T.Turns.turn_of in
    let f = c.self.inside in
    let p = c.deliver_placed-taken_back in
    let xs = p.new.components in
    let came = subst (λ ys. HasCome t c.args.cell p.result ys c.args.sent.now xs p.new.sent) c.deref_mut.ensures.value p.ensures.came in
    let items : (with_items f.components xs).items ≡ xs = with_items_is f.components xs (p.auto.components ∙ c.deref_mut.ensures.len) in
    subst (λ (v : MembersView _). IsDelivered t c.args.cell p.result v (record { setup = arc_value f.setup; base = f.base; components = (with_items f.components xs).items }) c.args.sent.now p.new.sent) c.self.view_is
    (subst (λ ys. IsDelivered t c.args.cell p.result (record { setup = arc_value f.setup; base = f.base; components = f.components.items }) (record { setup = arc_value f.setup; base = f.base; components = ys }) c.args.sent.now p.new.sent) (sym items)
    (come_done t (arc_value f.setup) f.base f.components.items f.places.items f.seats.items c.self.invariant c.args.cell p.result c.args.sent.now xs p.new.sent came))
