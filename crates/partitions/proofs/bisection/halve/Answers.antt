use Rattle.std.proofs.lemmas.List.Sorted.{IsPermutation-trans}
use Rattle.partitions.proofs.bisection.halve.Goals as goal

pub loop-preserved : goal.loop-preserved
loop-preserved c = IsPermutation-trans c.args.group_of.now.items c.loop.group_of.items c.improve.new.group_of.items c.loop.invariant c.in_ok-better.ensures

pub returns-then-not-better : goal.returns-then-not-better
returns-then-not-better c = IsPermutation-trans c.args.group_of.now.items c.loop.group_of.items c.improve.new.group_of.items c.loop.invariant c.in_ok-better.ensures
