use Rattle.std.proofs.Common.{◌≡◌, ℕ, ◌-◌, length, suc}
use Rattle.compose.specs.Standings.{seen_at}
use Rattle.compose.proofs.compatibility.seen.make_room.Given as goal

abbrev pub invariant-loop-alloc : goal.invariant-loop-alloc
invariant-loop-alloc l = (n : ℕ) → seen_at l.seen.items n ≡ seen_at l.initial.seen.items n

abbrev pub decreases-loop-alloc : goal.decreases-loop-alloc
decreases-loop-alloc l = suc l.name - length l.seen.items
