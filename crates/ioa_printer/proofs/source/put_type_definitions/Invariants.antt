use Rattle.std.proofs.Common.{◌≡◌, ◌++◌, drop, map}
use Rattle.ioa_trees.specs.Nodes.{yields}
use Rattle.ioa_trees.specs.Spelling.{type_definition_node}
use Rattle.ioa_trees.specs.Views.{view_type_definition}
use Rattle.ioa_printer.proofs.source.put_type_definitions.Given as goal

abbrev pub invariant-loop-definition : goal.invariant-loop-definition
invariant-loop-definition l =
    l.page ++ yields (map type_definition_node (map view_type_definition (drop l.definition-index l.definitions))) ≡ l.initial.page ++ yields (map type_definition_node (map view_type_definition l.definitions))
