use Rattle.std.proofs.Common.{ℕ, ◌<◌, length}
use Rattle.io_automata.specs.Automata.{component_at, composed}
use Rattle.patterns.specs.Patterns.{AreRising, HasEntries}
use Rattle.patterns.proofs.index.Index.of.Given as goal

abbrev pub invariant-loop-j : goal.invariant-loop-j
invariant-loop-j l = record {
  some : 0 < length l.index.numbers;
  rising : AreRising l.index.numbers;
  before : (i : ℕ) → i < l.j → HasEntries l.every l.index i (component_at (composed l.automata l.components) i);
}
