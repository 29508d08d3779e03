-- Keys and bounds as whole numbers.
use Rattle.std.specs.Prelude.{ℕ, ◌+◌, ◌*◌, ◌/◌, ◌%◌, ◌^◌}
use Rattle.event_keys.specs.declared.key.Key.{Key}
use Rattle.event_keys.specs.declared.key.Bound.{Bound}
use Rattle.event_keys.specs.declared.key.Bound.TheVariants.{At, End}

-- a key's rank has its tick, its component in 16 bits and its number in 64 bits, one after the other
abbrev pub rank : Key → ℕ
rank k = (k.tick * 2 ^ 16 + k.component) * 2 ^ 64 + k.number

-- the rank of the end is above every key's
abbrev pub rank_of_bound : Bound → ℕ
rank_of_bound (At k) = rank k
rank_of_bound End = 2 ^ 144

-- the component in a rank
abbrev pub owner_of : ℕ → ℕ
owner_of r = (r / 2 ^ 64) % 2 ^ 16
