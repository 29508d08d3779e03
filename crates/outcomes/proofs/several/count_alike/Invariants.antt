use Rattle.std.proofs.Common.{◌≡◌, ◌+◌, [], map, take, drop, length, slice_get}
use Rattle.std.specs.List.{flat_map}
use Rattle.io_automata.specs.Automata.{transition_of}
use Rattle.io_automata.specs.Steps.{permitted}
use Rattle.io_automata.specs.Tuples.{enabled_in, enabled_count}
use Rattle.outcomes.proofs.several.count_alike.Given as goal

abbrev pub invariant-loop-at : goal.invariant-loop-at
invariant-loop-at g l =
    let state = g.C.Cells.values l.cells in
    let entries = l.task.entries.now in
    let formals = l.task.formals.now in
    let places = l.task.places.now in
    let enabled = enabled_in entries formals state in
    record {
      noted : take l.at l.counts ≡ map (enabled_count entries formals state) (take l.at places);
      long : length l.counts ≡ length places;
      whole : l.total + length (flat_map enabled (drop l.at places)) ≡ length (flat_map enabled places);
      held : l.held ≡ permitted (slice_get (map transition_of entries) l.last) formals [] state;
    }
