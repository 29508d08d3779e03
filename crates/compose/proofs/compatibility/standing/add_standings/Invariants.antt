use Rattle.std.proofs.Common.{◌≡◌, ◌++◌, drop, map}
use Rattle.io_automata.specs.Automata.{transition_of}
use Rattle.compose.specs.Standings.{stood, stood_in}
use Rattle.compose.proofs.compatibility.standing.add_standings.Given as goal

abbrev pub invariant-loop-entry : goal.invariant-loop-entry
invariant-loop-entry l =
    map stood l.standings.items ++ map (stood_in l.component l.formals) (map transition_of (drop l.entry-index l.entries))
    ≡ map stood l.initial.standings.items ++ map (stood_in l.component l.formals) (map transition_of l.entries)
