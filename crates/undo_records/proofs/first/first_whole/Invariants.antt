use Rattle.std.proofs.Common.{◌≡◌, map}
use Rattle.std.specs.VecDeque.Iter.{deque_iter_rest}
use Rattle.undo_records.specs.Changes.{changes_in}
use Rattle.undo_records.specs.Places.{whole_earliest}
use Rattle.undo_records.specs.Traced.{written_in}
use Rattle.undo_records.proofs.first.first_whole.Given as goal

abbrev pub invariant-loop-changes : goal.invariant-loop-changes
invariant-loop-changes l =
    whole_earliest l.fn.traced.cell (map changes_in (deque_iter_rest l.changes-iterator)) l.value
    ≡ whole_earliest l.fn.traced.cell (written_in l.fn.traced) l.fn.traced.current.now
