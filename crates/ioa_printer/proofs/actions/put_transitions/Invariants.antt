use Rattle.std.proofs.Common.{◌≡◌, ◌++◌, drop, map}
use Rattle.ioa_trees.specs.Nodes.{yields}
use Rattle.ioa_trees.specs.Spelling.{transition_node}
use Rattle.ioa_trees.specs.Views.{view_transition}
use Rattle.ioa_printer.proofs.actions.put_transitions.Given as goal

abbrev pub invariant-loop-transition : goal.invariant-loop-transition
invariant-loop-transition l =
    l.page ++ yields (map transition_node (map view_transition (drop l.transition-index l.transitions))) ≡ l.initial.page ++ yields (map transition_node (map view_transition l.transitions))
