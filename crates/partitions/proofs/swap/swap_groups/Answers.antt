use Rattle.std.proofs.Common.{rules}
use Rattle.std.proofs.lemmas.List.Sorted.{IsPermutation-swap}
use Rattle.partitions.proofs.swap.swap_groups.Goals as goal

pub returns-then-b-len : goal.returns-then-b-len
returns-then-b-len c = IsPermutation-swap c.args.group_of.now.items c.swap.new.self.items c.args.a c.args.b (search rules) (search rules) c.swap.ensures.items
