use Rattle.ioa_trees.specs.Views.{view_source}
use Rattle.ioa_front.proofs.Counts.{few_tokens}
use Rattle.ioa_front.proofs.reading.read.Goals as goal

pub invariant_of-result : goal.invariant_of-result
invariant_of-result c = let known = c.in_ok-tree.ensures in (known.readable, few_tokens c.args.source.now (view_source c.in_ok-tree.tree) known.spelled known.size)
