-- Why a list is refused as a partition.
use Rattle.std.specs.Prelude.{◌≡◌, ◌<◌, ◌≤◌, ◌≢◌, ℕ, List, length, slice_index}
use Rattle.partitions.specs.declared.fault.PartitionFault.{PartitionFault}
use Rattle.partitions.specs.declared.fault.PartitionFault.TheVariants as faults
use Rattle.partitions.specs.Partitions.{size_of}

-- the fault of a list of groups, for so many components and groups
abbrev pub IsFault : (components groups : ℕ) → List ℕ → PartitionFault → Type 0
IsFault components groups group_of faults.NoMemory = Unit {0}
IsFault components groups group_of (faults.WrongLength given) = (given ≡ length group_of) × (given ≢ components)
IsFault components groups group_of (faults.NoSuchGroup i) = (i < components) × (groups ≤ slice_index group_of i)
IsFault components groups group_of (faults.EmptyGroup group) = (group < groups) × (size_of group_of group ≡ 0)
