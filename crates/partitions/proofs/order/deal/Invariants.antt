use Rattle.std.specs.Prelude.{IsPermutation}
use Rattle.partitions.proofs.order.deal.Given as goal

abbrev pub invariant-loop-place-2 : goal.invariant-loop-place-2
invariant-loop-place-2 l = IsPermutation l.fn.group_of.items l.group_of.items
