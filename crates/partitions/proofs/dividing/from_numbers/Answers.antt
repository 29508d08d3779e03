use Rattle.partitions.proofs.Dealt.{even_kept, partition_kept}
use Rattle.partitions.proofs.dividing.from_numbers.Goals as goal

pub returns-clause-partition : goal.returns-clause-partition
returns-clause-partition c = partition_kept c.args.components c.args.groups c.in_ok-group_of.group_of.items c.bisect.new.group_of.items c.in_ok-bisect.ensures c.in_ok-group_of.ensures.partition

pub returns-clause-even : goal.returns-clause-even
returns-clause-even c = even_kept c.args.groups c.in_ok-group_of.group_of.items c.bisect.new.group_of.items c.in_ok-bisect.ensures c.in_ok-group_of.ensures.even
