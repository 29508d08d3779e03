use Rattle.std.proofs.Common.{◌≡◌, map}
use Rattle.std.specs.List.{range_with_len}
use Rattle.plans.specs.Plans.{composition}
use Rattle.io_automata.specs.Steps.{start_of}
use Rattle.reference.proofs.checking.start_states.Given as goal

abbrev pub invariant-loop-i : goal.invariant-loop-i
invariant-loop-i l = l.states.items ≡ map (start_of (composition l.plan)) (range_with_len 0 l.i)
