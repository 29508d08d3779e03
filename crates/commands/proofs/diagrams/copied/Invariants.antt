use Rattle.std.proofs.Common.{◌≡◌, ◌++◌, length, map, string_bytes}
use Rattle.ioa_trees.specs.Views.{view_component}
use Rattle.commands.specs.Drawing.{names_in}
use Rattle.commands.proofs.diagrams.copied.Given as goal

abbrev pub invariant-loop-component : goal.invariant-loop-component
invariant-loop-component l = map string_bytes l.names.items ++ names_in (map view_component l.rest) ≡ names_in (map view_component l.components)

abbrev pub decreases-loop-component : goal.decreases-loop-component
decreases-loop-component l = length l.rest
