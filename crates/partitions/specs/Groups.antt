-- What a partition has.
use Rattle.std.specs.Prelude.{ℕ, List}
use Rattle.partitions.specs.declared.partition.Partition.{Partition}

-- of each component the number of its group
abbrev pub groups_of : Partition → List ℕ
groups_of partition = partition.group_of.items

-- how many groups there are
abbrev pub group_count : Partition → ℕ
group_count partition = partition.groups
