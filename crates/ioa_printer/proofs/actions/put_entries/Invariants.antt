use Rattle.std.proofs.Common.{◌≡◌, ◌++◌, drop, map}
use Rattle.ioa_trees.specs.Nodes.{yields}
use Rattle.ioa_trees.specs.Spelling.{entry_node}
use Rattle.ioa_trees.specs.Views.{view_entry}
use Rattle.ioa_printer.proofs.actions.put_entries.Given as goal

abbrev pub invariant-loop-entry : goal.invariant-loop-entry
invariant-loop-entry l =
    l.page ++ yields (map entry_node (map view_entry (drop l.entry-index l.entries))) ≡ l.initial.page ++ yields (map entry_node (map view_entry l.entries))
