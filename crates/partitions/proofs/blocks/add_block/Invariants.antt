use Rattle.std.proofs.Common.{◌≡◌, ◌++◌}
use Rattle.std.specs.Prelude.{replicate}
use Rattle.partitions.proofs.blocks.add_block.Given as goal

abbrev pub invariant-loop : goal.invariant-loop
invariant-loop l = l.group_of.items ≡ l.fn.group_of.items ++ replicate l.counter l.group
