use Rattle.std.proofs.Common.{◌≡◌, drop}
use Rattle.conditions.specs.Conditions.{is_one_left}
use Rattle.outcomes.proofs.asking.is_one_left.Given as goal

abbrev pub invariant-loop-here : goal.invariant-loop-here
invariant-loop-here l = is_one_left (drop l.here-index l.left) ≡ is_one_left l.left
