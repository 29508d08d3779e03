use Rattle.std.proofs.Common.{map, take}
use Rattle.ioa_check.specs.AutomatonViews.{used_names}
use Rattle.ioa_check.specs.Resolutions.{automaton_meaning, component_meaning}
use Rattle.compose.specs.Outputs.{AreGiven}
use Rattle.compose.proofs.hiding.given_names.Given as goal

abbrev pub invariant-loop-component : goal.invariant-loop-component
invariant-loop-component l = AreGiven (map automaton_meaning l.automata) (map component_meaning (take l.component-index l.components)) (used_names l.given) l.visited.items
