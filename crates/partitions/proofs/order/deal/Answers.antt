use Rattle.std.proofs.lemmas.List.Sorted.{IsPermutation-trans}
use Rattle.partitions.proofs.order.deal.Goals as goal

pub loop-place-2-preserved : goal.loop-place-2-preserved
loop-place-2-preserved c = IsPermutation-trans c.args.group_of.now.items c.loop-place-2.group_of.items c.stand.new.group_of.items c.loop-place-2.invariant c.stand.ensures
