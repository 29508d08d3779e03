use Rattle.std.proofs.Common.{ℕ, ◌<◌, get_or, slice_get}
use Rattle.outcomes.specs.Alike.{number_or_none}
use Rattle.outcomes.proofs.several.are_alike.Given as goal

abbrev pub invariant-loop-place : goal.invariant-loop-place
invariant-loop-place l = (k : ℕ) → k < l.place-index → 0 < number_or_none (slice_get l.task.known.now.numbers.items (get_or l.task.places.now k 0))
