use Rattle.std.proofs.Common.{◌≡◌, map}
use Rattle.std.specs.VecDeque.Iter.{deque_iter_rest}
use Rattle.undo_records.specs.Changes.{changes_in}
use Rattle.undo_records.specs.Places.{part, part_earliest}
use Rattle.undo_records.specs.Traced.{written_in}
use Rattle.undo_records.proofs.first.first_part.Given as goal

abbrev pub invariant-loop-changes : goal.invariant-loop-changes
invariant-loop-changes l =
    part_earliest l.fn.traced.cell l.fn.index (map changes_in (deque_iter_rest l.changes-iterator)) l.item
    ≡ part_earliest l.fn.traced.cell l.fn.index (written_in l.fn.traced) (part l.fn.index l.fn.traced.current.now)
