use Rattle.std.proofs.Common.{◌≡◌, ℕ, ◌||◌, bytes_eq, List, drop, map}
use Rattle.std.specs.List.{list_any}
use Rattle.ioa_trees.specs.Views.{view_entry}
use Rattle.ioa_trees.specs.AutomatonRules.{entry_names}
use Rattle.ioa_check.specs.AutomatonViews.{used_names}
use Rattle.ioa_check.proofs.locals.use_parameters.Given as goal

abbrev pub invariant-loop-entry : goal.invariant-loop-entry
invariant-loop-entry l = (q : List ℕ) → (list_any (bytes_eq q) (entry_names (map view_entry (drop l.entry-index l.entries))) || list_any (bytes_eq q) (used_names l.used))
    ≡ (list_any (bytes_eq q) (entry_names (map view_entry l.entries)) || list_any (bytes_eq q) (used_names l.initial.used))
