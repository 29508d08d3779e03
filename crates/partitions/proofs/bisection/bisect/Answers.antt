use Rattle.std.proofs.lemmas.List.Sorted.{IsPermutation-trans}
use Rattle.partitions.proofs.bisection.bisect.Goals as goal

pub loop-preserved : goal.loop-preserved
loop-preserved c = IsPermutation-trans c.args.group_of.now.items c.loop.group_of.items c.halve.new.group_of.items c.loop.invariant c.in_ok-halve.ensures
