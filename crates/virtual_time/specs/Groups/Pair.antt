-- The two components of the ring as one group.
use Rattle.std.specs.Prelude.{ℕ, zero, suc}
use Rattle.virtual_time.specs.Ring.{ring}
use Rattle.virtual_time.specs.Worlds.{World}
use Rattle.virtual_time.specs.Groups.Leases.{Lease, alone, start_lease}

-- Components 0 and 1 are group 0; each of the others is a group of its own.
abbrev pub pair : ℕ → ℕ
pair zero = 0
pair (suc zero) = 0
pair (suc (suc j)) = suc (suc j)

-- The lease of the two at the start, and its open world.
abbrev pub pair_lease : Lease ℕ ℕ
pair_lease = start_lease ring pair 2 0

abbrev pub pair_world : World ℕ ℕ
pair_world = alone ring pair 0 pair_lease
