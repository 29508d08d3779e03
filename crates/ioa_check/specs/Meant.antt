-- What automata mean, without where it lies in memory.
use Rattle.std.specs.Prelude.{map, string_bytes}
use Rattle.ioa_trees.specs.AutomatonRules as rule
use Rattle.ioa_typing.specs.KindViews.{option_tree}
use Rattle.ioa_entries.specs.EntryViews.{meant_tree}
use Rattle.ioa_check.specs.declared.meant.MeantAutomaton.{MeantAutomaton}
use Rattle.ioa_check.specs.AutomatonViews.{cell_kind, cell_start, place_lists}

abbrev pub automaton_tree : MeantAutomaton → rule.MeantAutomaton
automaton_tree a = record {
  name = string_bytes a.name;
  formals = map option_tree a.formals.items;
  entries = map meant_tree a.entries.items;
  variables = map cell_kind a.cells.items;
  start = map cell_start a.cells.items;
  tasks = place_lists a.tasks.items;
}
