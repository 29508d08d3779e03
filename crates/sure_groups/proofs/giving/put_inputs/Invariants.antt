use Rattle.std.proofs.Common.{◌≡◌, ◌++◌, List, length}
use Rattle.std.specs.Vec.Iter.{into_iter_items, into_iter_len}
use Rattle.sure_groups.specs.declared.input.Input.{Input as Seen}
use Rattle.sure_groups.specs.Giving.{AreGiven}
use Rattle.sure_groups.proofs.giving.put_inputs.Given as goal

abbrev pub invariant-loop-input : goal.invariant-loop-input
invariant-loop-input l = record {
  can : (goal.iterator-loop-input).can_next l.input-iterator;
  finite : (goal.iterator-loop-input).is_finite l.input-iterator;
  left : into_iter_len l.input-iterator ≡ length (into_iter_items l.input-iterator);
  given : (done : List Seen) × (done ++ into_iter_items l.input-iterator ≡ into_iter_items l.initial.input-iterator) × AreGiven done l.initial.members.items l.members.items;
}
