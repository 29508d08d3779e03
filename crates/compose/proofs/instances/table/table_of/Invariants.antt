use Rattle.std.proofs.Common.{map, take}
use Rattle.ioa_check.specs.Resolutions.{automaton_meaning, component_meaning}
use Rattle.compose.specs.Tables.{IsTable, table}
use Rattle.compose.proofs.instances.table.table_of.Given as goal

abbrev pub invariant-loop-component : goal.invariant-loop-component
invariant-loop-component l = IsTable (map automaton_meaning l.automata) (map component_meaning (take l.component-index l.components)) (table l.names) l.used.items
