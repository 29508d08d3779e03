use Rattle.std.proofs.Common.{◌≡◌, ◌++◌, drop, map}
use Rattle.ioa_check.specs.Resolutions.{automaton_meaning, transition_meaning}
use Rattle.compose.specs.TypedStandings.{stood, stood_in}
use Rattle.compose.proofs.action_types.standing.add_standings.Given as goal

abbrev pub invariant-loop-entry : goal.invariant-loop-entry
invariant-loop-entry l =
    map stood l.standings.items ++ map (stood_in l.component (automaton_meaning l.automaton)) (map transition_meaning (drop l.entry-index l.automaton.transitions.items))
    ≡ map stood l.initial.standings.items ++ map (stood_in l.component (automaton_meaning l.automaton)) (map transition_meaning l.automaton.transitions.items)
