use Rattle.std.proofs.Common.{◌≡◌, ◌++◌, drop, map}
use Rattle.io_automata.specs.Automata.{composed}
use Rattle.compose.specs.Standings.{stood, stands}
use Rattle.compose.proofs.compatibility.standing.standings.Given as goal

abbrev pub invariant-loop-component : goal.invariant-loop-component
invariant-loop-component l = record {
  number : l.number ≡ l.component-index;
  standings : map stood l.all.items ++ stands l.number (composed l.automata (drop l.component-index l.components)) ≡ stands 0 (composed l.automata l.components);
}
