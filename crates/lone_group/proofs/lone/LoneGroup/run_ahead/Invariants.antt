use Rattle.std.proofs.Common.{◌-◌, ◌≤◌}
use Rattle.lone_group.specs.Lone.{IsAhead}
use Rattle.lone_group.proofs.lone.LoneGroup.run_ahead.Given as goal

abbrev pub invariant-loop-count : goal.invariant-loop-count
invariant-loop-count g l = record { ahead : IsAhead l.initial.self l.self l.count; most : l.count ≤ l.budget }

abbrev pub decreases-loop-count : goal.decreases-loop-count
decreases-loop-count g l = l.budget - l.count
