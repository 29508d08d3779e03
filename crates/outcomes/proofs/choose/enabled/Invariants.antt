use Rattle.std.proofs.Common.{◌≡◌, ◌++◌, drop}
use Rattle.std.specs.List.{flat_map}
use Rattle.outcomes.specs.Tasks.{enabled_of_task, made_of}
use Rattle.outcomes.proofs.choose.enabled.Given as goal

abbrev pub invariant-loop-found : goal.invariant-loop-found
invariant-loop-found g l = l.actions.items ++ flat_map (made_of l.task) (drop l.found-index l.found-items) ≡ enabled_of_task l.task (g.C.Cells.values l.cells)
