use Rattle.std.proofs.Common.{◌≡◌, ◌++◌, drop, map}
use Rattle.ioa_tokens.specs.declared.Word.TheVariants as w
use Rattle.ioa_trees.specs.Nodes.{yields, formal_part}
use Rattle.ioa_trees.specs.Spelling.{parts, formal_node}
use Rattle.ioa_trees.specs.Views.{view_declared}
use Rattle.ioa_printer.proofs.automata.put_more_formals.Given as goal

abbrev pub invariant-loop-other : goal.invariant-loop-other
invariant-loop-other l =
    l.page ++ yields (parts formal_part w.Comma formal_node (map view_declared (drop l.other-index l.others))) ≡ l.initial.page ++ yields (parts formal_part w.Comma formal_node (map view_declared l.others))
