use Rattle.std.proofs.Common.{◌≡◌, ◌++◌, drop}
use Rattle.std.specs.List.{flat_map}
use Rattle.io_automata.specs.Tuples.{enabled_in}
use Rattle.outcomes.specs.Tasks.{AreFound, enabled_of_task, made_of}
use Rattle.outcomes.proofs.found.find.Given as goal

abbrev pub invariant-loop-place : goal.invariant-loop-place
invariant-loop-place g l =
    let state = g.C.Cells.values l.cells in
    record {
      there : AreFound l.task l.founds.items;
      made : flat_map (made_of l.task) l.founds.items ++ flat_map (enabled_in l.task.entries.now l.task.formals.now state) (drop l.place-index l.task.places.now) ≡ enabled_of_task l.task state;
    }
