use Rattle.std.proofs.Common.{◌≡◌, map, take, length}
use Rattle.io_automata.specs.Automata.{transition_of}
use Rattle.outcomes.specs.Tasks.{AreSolved}
use Rattle.outcomes.proofs.known.conditions_in.Given as goal

abbrev pub invariant-loop-entry : goal.invariant-loop-entry
invariant-loop-entry l = record {
  are : AreSolved (map transition_of (take l.entry-index l.entries)) l.conditions.items;
  long : length l.conditions.items ≡ l.entry-index;
}
