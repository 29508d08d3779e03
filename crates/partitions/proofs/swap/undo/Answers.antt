use Rattle.std.proofs.lemmas.List.Sorted.{IsPermutation-trans}
use Rattle.partitions.proofs.swap.undo.Goals as goal

pub loop-place-preserved : goal.loop-place-preserved
loop-place-preserved c = IsPermutation-trans c.args.group_of.now.items c.loop-place.group_of.items c.swap_groups.new.group_of.items c.loop-place.invariant c.swap_groups.ensures
