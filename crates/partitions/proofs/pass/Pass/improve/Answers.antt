use Rattle.std.proofs.lemmas.List.Sorted.{IsPermutation-trans}
use Rattle.partitions.proofs.pass.Pass.improve.Goals as goal

pub loop-preserved : goal.loop-preserved
loop-preserved c = IsPermutation-trans c.args.group_of.now.items c.loop.group_of.items c.swap_groups.new.group_of.items c.loop.invariant c.swap_groups.ensures

pub returns : goal.returns
returns c = IsPermutation-trans c.args.group_of.now.items c.loop.group_of.items c.undo.new.group_of.items c.loop.invariant c.undo.ensures
