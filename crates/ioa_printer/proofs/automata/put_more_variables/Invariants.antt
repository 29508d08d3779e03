use Rattle.std.proofs.Common.{◌≡◌, ◌++◌, drop, map}
use Rattle.ioa_tokens.specs.declared.Word.TheVariants as w
use Rattle.ioa_trees.specs.Nodes.{yields, variable_part}
use Rattle.ioa_trees.specs.Spelling.{parts, variable_node}
use Rattle.ioa_trees.specs.Views.{view_variable}
use Rattle.ioa_printer.proofs.automata.put_more_variables.Given as goal

abbrev pub invariant-loop-other : goal.invariant-loop-other
invariant-loop-other l =
    l.page ++ yields (parts variable_part w.Comma variable_node (map view_variable (drop l.other-index l.others))) ≡ l.initial.page ++ yields (parts variable_part w.Comma variable_node (map view_variable l.others))
