use Rattle.std.specs.Prelude.{IsPermutation}
use Rattle.partitions.proofs.pass.Pass.improve.Given as goal

abbrev pub invariant-loop : goal.invariant-loop
invariant-loop l = IsPermutation l.fn.group_of.items l.group_of.items
