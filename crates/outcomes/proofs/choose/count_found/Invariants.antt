use Rattle.std.proofs.Common.{◌≡◌, ◌+◌, drop, length}
use Rattle.std.specs.List.{flat_map}
use Rattle.outcomes.specs.Tasks.{made_of}
use Rattle.outcomes.proofs.choose.count_found.Given as goal

abbrev pub invariant-loop-found : goal.invariant-loop-found
invariant-loop-found l = l.total + length (flat_map (made_of l.task) (drop l.found-index l.founds)) ≡ length (flat_map (made_of l.task) l.founds)
