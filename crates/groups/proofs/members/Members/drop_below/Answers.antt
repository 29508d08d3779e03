use Rattle.std.proofs.Common.{◌≡◌, length, sym, subst, ap, ◌∙◌, arith}
use Rattle.std.specs.Arc.{arc_value}
use Rattle.std.specs.Vec.{with_items}
use Rattle.std.proofs.lemmas.List.{with_items_is}
use Rattle.groups.specs.Crew.{AreOf, ArePlaced, AreSeated, AreValidMembers}
use Rattle.groups.specs.Dropping.{cut_all}
use Rattle.groups.proofs.Dropped.{cut_few, own_cut, places_cut}
use Rattle.groups.proofs.members.Members.drop_below.Goals as goal

pub invariant_of-self : goal.invariant_of-self
invariant_of-self g c =
    let t = g.T.Turns.turn_of in
    let f = c.self.inside in
    let p = c.drop_all in
    let cs = f.components.items in
    let xs = p.new.components in
    let e : xs ≡ cut_all t c.args.bound cs = p.ensures.components ∙ ap (cut_all t c.args.bound) c.deref_mut.ensures.value in
    let items : (with_items f.components xs).items ≡ xs = with_items_is f.components xs (p.auto.components ∙ c.deref_mut.ensures.len) in
    let long : length xs ≡ length cs = ap length e ∙ cut_few t c.args.bound cs in
    let few = c.self.invariant.few in
    subst (λ ys. AreValidMembers t (arc_value f.setup) c.args.bound ys f.places.items f.seats.items) (sym items)
    (record {
      own = subst (AreOf (arc_value f.setup) c.args.bound) (sym e) (own_cut t c.args.bound (arc_value f.setup) f.base cs c.self.invariant.own);
      few = omega (arith, long, few);
      placed = subst (λ ys. ArePlaced ys f.places.items) (sym e) (places_cut t c.args.bound cs f.places.items c.self.invariant.placed);
      seated = p.ensures.seated f.seats.items (subst (λ ys. AreSeated t ys f.seats.items) (sym c.deref_mut.ensures.value) c.self.invariant.seated);
    })
