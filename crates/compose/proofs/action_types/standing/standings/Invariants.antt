use Rattle.std.proofs.Common.{◌≡◌, ◌++◌, drop, map}
use Rattle.ioa_check.specs.Resolutions.{automaton_meaning, component_meaning}
use Rattle.compose.specs.TypedStandings.{stood, stands}
use Rattle.compose.proofs.action_types.standing.standings.Given as goal

abbrev pub invariant-loop-number : goal.invariant-loop-number
invariant-loop-number l =
    map stood l.all.items ++ stands (map automaton_meaning l.automata) l.number (map component_meaning (drop l.number l.components))
    ≡ stands (map automaton_meaning l.automata) 0 (map component_meaning l.components)
