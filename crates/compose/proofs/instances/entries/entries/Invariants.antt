use Rattle.std.proofs.Common.{◌≡◌, ◌++◌, length, map}
use Rattle.std.specs.Vec.Iter.{into_iter_items, into_iter_len}
use Rattle.io_automata.specs.Automata.{transition_of}
use Rattle.plans.specs.Plans.{text_of}
use Rattle.ioa_check.specs.Resolutions.{transition_meaning}
use Rattle.compose.specs.Instances.{transition}
use Rattle.compose.proofs.instances.entries.entries.Given as goal

abbrev pub invariant-loop-one : goal.invariant-loop-one
invariant-loop-one l = record {
  taken : map transition_of l.found.items ++ map (transition (map text_of l.actions)) (map transition_meaning (into_iter_items l.one-iterator)) ≡ map (transition (map text_of l.actions)) (map transition_meaning (into_iter_items l.initial.one-iterator));
  left : into_iter_len l.one-iterator ≡ length (into_iter_items l.one-iterator);
}
