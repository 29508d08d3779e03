use Rattle.std.proofs.Common.{rules, arith, ◌≡◌, ◌∷◌, Some, length, sym, ap}
use Rattle.std.specs.Vec.Iter.{into_iter_items}
use Rattle.ioa_check.proofs.Taken.{next_some, others_some, put}
use Rattle.ioa_check.proofs.resolving.all.Goals as goal

pub there-requires : goal.there-requires
there-requires g c = next_some (into_iter_items c.loop-item.item-iterator) (into_iter_items c.next.new.self) c.in-Some.item c.in-Some.ensures.steps.0 c.loop-item.invariant.whole

pub loop-item-preserved : goal.loop-item-preserved
loop-item-preserved g c =
    let at = c.loop-item in
    let steps : into_iter_items at.item-iterator ≡ c.in-Some.item ∷ into_iter_items c.next.new.self = c.in-Some.ensures.steps.0 in
    let short = ap length steps in
    record {
      taken = put Some at.found.items c.push.new.self.items c.there.result c.in-Some.item (into_iter_items at.item-iterator) (into_iter_items c.next.new.self) _ (search rules) (sym c.there.ensures) steps at.invariant.taken;
      whole = others_some (into_iter_items at.item-iterator) (into_iter_items c.next.new.self) c.in-Some.item steps at.invariant.whole;
      left = omega (arith, short, at.invariant.left, c.in-Some.ensures.steps.1);
    }
