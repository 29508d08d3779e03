use Rattle.std.proofs.Common.{◌≡◌, ◌++◌, drop, map}
use Rattle.ioa_tokens.specs.declared.Word.TheVariants as w
use Rattle.ioa_trees.specs.Nodes.{yields, argument_part}
use Rattle.ioa_trees.specs.Spelling.{parts, node}
use Rattle.ioa_trees.specs.Views.{view}
use Rattle.ioa_printer.proofs.source.put_more_arguments.Given as goal

abbrev pub invariant-loop-other : goal.invariant-loop-other
invariant-loop-other l =
    l.page ++ yields (parts argument_part w.Comma node (map view (drop l.other-index l.others))) ≡ l.initial.page ++ yields (parts argument_part w.Comma node (map view l.others))
