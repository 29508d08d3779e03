use Rattle.std.proofs.Common.{◌≡◌, map, take}
use Rattle.outcomes.specs.Alike.{alike}
use Rattle.io_automata.specs.Automata.{transition_of}
use Rattle.outcomes.proofs.known.alike_in.Given as goal

abbrev pub invariant-loop-entry : goal.invariant-loop-entry
invariant-loop-entry l = l.numbers.items ≡ map alike (map transition_of (take l.entry-index l.entries))
