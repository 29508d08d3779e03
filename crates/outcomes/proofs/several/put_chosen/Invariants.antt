use Rattle.std.proofs.Common.{◌≡◌, drop, slice_get, None}
use Rattle.std.specs.List.{flat_map}
use Rattle.io_automata.specs.Tuples.{enabled_in}
use Rattle.outcomes.proofs.several.put_chosen.Given as goal

abbrev pub invariant-loop-at : goal.invariant-loop-at
invariant-loop-at g l =
    let enabled = enabled_in l.task.entries.now l.task.formals.now (g.C.Cells.values l.cells) in
    let places = l.task.places.now in
    record {
      none : l.found ≡ None;
      stands : slice_get (flat_map enabled (drop l.at places)) l.left ≡ slice_get (flat_map enabled places) l.nth;
    }
