use Rattle.std.proofs.Common.{arith}
use Rattle.hunt.specs.Seeds.{hunted}
use Rattle.hunt.proofs.sharing.look_through.Goals as goal

pub returns-then-is_over-clause-part : goal.returns-then-is_over-clause-part
returns-then-is_over-clause-part g c =
    let h = hunted c.args.source.now c.args.action.now c.args.course in
    let here = c.loop-at.invariant in
    let stop = c.border-stop.ensures in
    c.ended.ensures h c.args.first (c.merged-all.ensures h c.args.first c.loop-at.at c.border-stop.result here.above stop.above here.part c.in-Ok.ensures.part)

pub loop-at-preserved-then-size-lt-MOST_SEEDS : goal.loop-at-preserved-then-size-lt-MOST_SEEDS
loop-at-preserved-then-size-lt-MOST_SEEDS g c =
    let h = hunted c.args.source.now c.args.action.now c.args.course in
    let here = c.loop-at.invariant in
    let stop = c.border-stop.ensures in
    record {
      above = omega (arith, here.above, stop.above);
      below = stop.below;
      some = omega arith;
      few = omega arith;
      part = c.merged-all.ensures h c.args.first c.loop-at.at c.border-stop.result here.above stop.above here.part c.in-Ok.ensures.part;
    }

pub loop-at-preserved : goal.loop-at-preserved
loop-at-preserved g c =
    let h = hunted c.args.source.now c.args.action.now c.args.course in
    let here = c.loop-at.invariant in
    let stop = c.border-stop.ensures in
    record {
      above = omega (arith, here.above, stop.above);
      below = stop.below;
      some = here.some;
      few = here.few;
      part = c.merged-all.ensures h c.args.first c.loop-at.at c.border-stop.result here.above stop.above here.part c.in-Ok.ensures.part;
    }

pub returns-clause-part : goal.returns-clause-part
returns-clause-part g c = c.ended-2.ensures (hunted c.args.source.now c.args.action.now c.args.course) c.args.first c.loop-at.invariant.part
