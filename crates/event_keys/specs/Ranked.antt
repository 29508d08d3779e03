-- Ranks of keys whose numbers fit their types.
use Rattle.std.proofs.Common.{◌≡◌, ◌^◌, ◌<◌, arith, rules}
use Rattle.std.proofs.lemmas.Grind.{common_steps}
use Rattle.std.specs.Ordering.{nat_cmp}
use Rattle.event_keys.specs.declared.key.Key.{Key}
use Rattle.event_keys.specs.Orders.{key_order}
use Rattle.event_keys.specs.Ranks.{rank, owner_of}

pub key_rank : (a b : Key) → a.component < 2 ^ 16 → a.number < 2 ^ 64 → b.component < 2 ^ 16 → b.number < 2 ^ 64 → key_order a b ≡ nat_cmp (rank a) (rank b)
key_rank a b a_component a_number b_component b_number = first_of (search rules, grind (arith, common_steps))

pub rank_owner : (k : Key) → k.component < 2 ^ 16 → k.number < 2 ^ 64 → owner_of (rank k) ≡ k.component
rank_owner k component number = omega arith

pub rank_below_end : (k : Key) → k.tick < 2 ^ 64 → k.component < 2 ^ 16 → k.number < 2 ^ 64 → rank k < 2 ^ 144
rank_below_end k tick component number = omega arith
