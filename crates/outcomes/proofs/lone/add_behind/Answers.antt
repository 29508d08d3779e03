use Rattle.std.proofs.Common.{refl}
use Rattle.outcomes.proofs.Walking.{behind_more}
use Rattle.outcomes.proofs.lone.add_behind.Goals as goal

pub loop-span-preserved : goal.loop-span-preserved
loop-span-preserved c = behind_more c.args.out.now.items c.loop-span.out.items c.push.new.self.items c.args.spans.now c.loop-span.span-index c.args.by _ _ _ c.loop-span-test.true c.loop-span.invariant c.in_ok-push.ensures.ok c.in_ok-sum.ensures refl
