use Rattle.std.proofs.Common.{◌≡◌, length}
use Rattle.plans.specs.Known.{AreKnownTo}
use Rattle.plans.proofs.plan.parts.known_of.Given as goal

abbrev pub invariant-loop-automaton : goal.invariant-loop-automaton
invariant-loop-automaton l = record {
  long : length l.known.items ≡ l.automaton-index;
  are : AreKnownTo l.automaton-index l.automata l.known.items;
}
