use Rattle.std.proofs.Common.{◌≡◌, ◌++◌, ◌<◌, ◌^◌, [], length, map}
use Rattle.std.specs.List.{All}
use Rattle.std.specs.Vec.Iter.{into_iter_items, into_iter_len}
use Rattle.io_automata.specs.Automata.{with_formals}
use Rattle.plans.specs.Plans.{text_of}
use Rattle.ioa_check.specs.Resolutions.{automaton_meaning}
use Rattle.compose.specs.Tables.{converted}
use Rattle.compose.proofs.instances.automata.automata.Given as goal

abbrev pub invariant-loop-one : goal.invariant-loop-one
invariant-loop-one l = record {
  taken : map (with_formals []) l.found.items ++ converted (map text_of l.actions) l.used (length l.found.items) (map automaton_meaning (into_iter_items l.one-iterator)) ≡ converted (map text_of l.actions) l.used 0 (map automaton_meaning (into_iter_items l.initial.one-iterator));
  few : All (λ a. length a.tasks < 2 ^ 32) (map automaton_meaning (into_iter_items l.one-iterator));
  left : into_iter_len l.one-iterator ≡ length (into_iter_items l.one-iterator);
}
