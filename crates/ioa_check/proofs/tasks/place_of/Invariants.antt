use Rattle.std.proofs.Common.{◌≡◌, drop, map}
use Rattle.ioa_trees.specs.Views.{view_transition}
use Rattle.ioa_trees.specs.AutomatonRules.{place_of}
use Rattle.ioa_check.proofs.tasks.place_of.Given as goal

abbrev pub invariant-loop-place : goal.invariant-loop-place
invariant-loop-place l = place_of l.name l.place (map view_transition (drop l.place l.transitions)) ≡ place_of l.name 0 (map view_transition l.transitions)
