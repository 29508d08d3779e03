-- What sources mean, without where it lies in memory.
use Rattle.std.specs.Prelude.{map, string_bytes}
use Rattle.ioa_check.specs.Meant.{automaton_tree}
use Rattle.ioa_check.specs.ComponentViews.{component_tree}
use Rattle.ioa_trees.specs.SourceRules as rule
use Rattle.ioa_check.specs.declared.meant.MeantSource.{MeantSource}

abbrev pub source_tree : MeantSource → rule.MeantSource
source_tree x = record {
  members = map string_bytes x.members.items;
  automata = map automaton_tree x.automata.items;
  components = map component_tree x.components.items;
  hidden = map string_bytes x.hidden.items;
}
