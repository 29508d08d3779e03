use Rattle.std.proofs.Common.{◌≡◌, ℕ, ◌-◌, length, suc}
use Rattle.patterns.specs.Patterns.{list_at}
use Rattle.patterns.proofs.index.notes.make_room.Given as goal

abbrev pub invariant-loop-alloc : goal.invariant-loop-alloc
invariant-loop-alloc l = (n : ℕ) → list_at l.masks.items n ≡ list_at l.initial.masks.items n

abbrev pub decreases-loop-alloc : goal.decreases-loop-alloc
decreases-loop-alloc l = suc l.name - length l.masks.items
