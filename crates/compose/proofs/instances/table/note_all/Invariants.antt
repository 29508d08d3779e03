use Rattle.std.proofs.Common.{◌≤◌, ◌+◌, Some, map, take, length}
use Rattle.ioa_typing.specs.KindViews.{option_tree}
use Rattle.ioa_check.specs.Resolutions.{transition_meaning}
use Rattle.compose.specs.Names.{signature_of}
use Rattle.compose.specs.Tables.{Adds, table}
use Rattle.compose.proofs.instances.table.note_all.Given as goal

abbrev pub invariant-loop-transition : goal.invariant-loop-transition
invariant-loop-transition l = record {
  adds : Adds (table l.names) (table l.initial.names) (map (signature_of (map (λ k. option_tree (Some k)) l.automaton.formals.items)) (map transition_meaning (take l.transition-index l.transition-items)));
  few : length (table l.names) ≤ length (table l.initial.names) + l.transition-index;
}
