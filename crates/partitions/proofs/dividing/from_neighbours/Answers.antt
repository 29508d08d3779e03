use Rattle.std.proofs.lemmas.List.Sorted.{IsPermutation-trans}
use Rattle.partitions.proofs.Dealt.{even_kept, partition_kept}
use Rattle.partitions.proofs.dividing.from_neighbours.Goals as goal

pub returns-clause-partition : goal.returns-clause-partition
returns-clause-partition c =
    let xs = c.in_ok-group_of.group_of.items in
    let ys = c.bisect.new.group_of.items in
    partition_kept c.args.components c.args.groups xs ys (IsPermutation-trans xs c.deal.new.group_of.items ys c.in_ok-deal.ensures c.in_ok-bisect.ensures) c.in_ok-group_of.ensures.partition

pub returns-clause-even : goal.returns-clause-even
returns-clause-even c =
    let xs = c.in_ok-group_of.group_of.items in
    let ys = c.bisect.new.group_of.items in
    even_kept c.args.groups xs ys (IsPermutation-trans xs c.deal.new.group_of.items ys c.in_ok-deal.ensures c.in_ok-bisect.ensures) c.in_ok-group_of.ensures.even
