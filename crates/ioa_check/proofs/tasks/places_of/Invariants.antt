use Rattle.std.proofs.Common.{◌≡◌, ◌++◌, drop, map, string_bytes}
use Rattle.ioa_trees.specs.Views.{view_transition}
use Rattle.ioa_trees.specs.AutomatonRules.{place_of}
use Rattle.ioa_check.proofs.tasks.places_of.Given as goal

abbrev pub invariant-loop-name : goal.invariant-loop-name
invariant-loop-name l = l.places.items ++ map (λ q. place_of q 0 (map view_transition l.transitions)) (map string_bytes (drop l.name-index l.task))
    ≡ map (λ q. place_of q 0 (map view_transition l.transitions)) (map string_bytes l.task)
