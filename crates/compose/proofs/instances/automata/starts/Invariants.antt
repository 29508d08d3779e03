use Rattle.std.proofs.Common.{◌≡◌, ◌++◌, Some, length, map}
use Rattle.std.specs.Vec.Iter.{into_iter_items, into_iter_len}
use Rattle.terms.specs.TermTree.{term_tree}
use Rattle.ioa_typing.specs.TermViews.{core_tree}
use Rattle.compose.specs.Instances.{term_or_true}
use Rattle.compose.proofs.instances.automata.starts.Given as goal

abbrev pub invariant-loop-variable : goal.invariant-loop-variable
invariant-loop-variable l = record {
  taken : map term_tree l.found.items ++ map term_or_true (map (λ v. core_tree (Some v.start)) (into_iter_items l.variable-iterator)) ≡ map term_or_true (map (λ v. core_tree (Some v.start)) (into_iter_items l.initial.variable-iterator));
  left : into_iter_len l.variable-iterator ≡ length (into_iter_items l.variable-iterator);
}
