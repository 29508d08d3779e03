-- A component has no more turns than it may.
use Rattle.std.proofs.Common.{◌≡◌, ℕ, ◌+◌, ◌<◌, ◌^◌, Bool, true, false, refl, arith}
use Rattle.std.specs.Prelude.{◌&&◌, if◌then◌else◌, nat_lt, length}
use Rattle.std.proofs.lemmas.Bool.{and_parts}
use Rattle.event_keys.specs.Ranks.{rank}
use Rattle.task_seed.specs.Machines.{end_rank, turn_rank}
use Rattle.task_seed.specs.Ticks.{has_parts}
use Rattle.task_seed.specs.Turning.{System, has_turns, key_at, ticks}

pub few_turns : (s : System) (i n : ℕ) → turn_rank s i n < end_rank → n < 4294967296
few_turns s i n h = go (nat_lt i (length s.composition) && has_turns s i (n + 1)) refl h
  where
    go : (b : Bool) → (nat_lt i (length s.composition) && has_turns s i (n + 1)) ≡ b → (if b then rank (key_at i n (ticks s i (n + 1))) else end_rank) < end_rank → n < 4294967296
    go false e l = absurd (omega (arith, l))
    go true e l = let few = (has_parts s i (n + 1) (and_parts (nat_lt i (length s.composition)) (has_turns s i (n + 1)) e).1).few in omega (arith, few)

pub end_is : end_rank ≡ 2 ^ 144
unfolding end_rank
end_is = refl
