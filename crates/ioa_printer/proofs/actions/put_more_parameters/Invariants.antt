use Rattle.std.proofs.Common.{◌≡◌, ◌++◌, drop, map}
use Rattle.ioa_tokens.specs.declared.Word.TheVariants as w
use Rattle.ioa_trees.specs.Nodes.{yields, parameter_part}
use Rattle.ioa_trees.specs.Spelling.{parts, parameter_node}
use Rattle.ioa_trees.specs.Views.{view_parameter}
use Rattle.ioa_printer.proofs.actions.put_more_parameters.Given as goal

abbrev pub invariant-loop-other : goal.invariant-loop-other
invariant-loop-other l =
    l.page ++ yields (parts parameter_part w.Comma parameter_node (map view_parameter (drop l.other-index l.others))) ≡ l.initial.page ++ yields (parts parameter_part w.Comma parameter_node (map view_parameter l.others))
