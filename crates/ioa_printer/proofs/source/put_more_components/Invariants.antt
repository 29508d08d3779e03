use Rattle.std.proofs.Common.{◌≡◌, ◌++◌, drop, map}
use Rattle.ioa_tokens.specs.declared.Word.TheVariants as w
use Rattle.ioa_trees.specs.Nodes.{yields, component_part}
use Rattle.ioa_trees.specs.Spelling.{parts, component_node}
use Rattle.ioa_trees.specs.Views.{view_component}
use Rattle.ioa_printer.proofs.source.put_more_components.Given as goal

abbrev pub invariant-loop-other : goal.invariant-loop-other
invariant-loop-other l =
    l.page ++ yields (parts component_part w.Semicolon component_node (map view_component (drop l.other-index l.others))) ≡ l.initial.page ++ yields (parts component_part w.Semicolon component_node (map view_component l.others))
