use Rattle.terms.specs.Datum.{items_of}
use Rattle.terms.specs.Same.{same}
use Rattle.undo_records.specs.Traced.{first_value}
use Rattle.undo_records.proofs.Likeness.{is_part_first}
use Rattle.undo_records.proofs.Sameness.{items_equal, items_differ, items_end}
use Rattle.undo_records.proofs.first.have_same_parts.Goals as goal

pub loop-index-preserved : goal.loop-index-preserved
loop-index-preserved c = λ a_count b_count.
    items_equal same (items_of (first_value c.args.a)) (items_of (first_value c.args.b)) c.loop-index.index c.args.count c.first_part.result.now c.first_part-in-loop-index.result.now (first_value c.args.a) (first_value c.args.b) a_count b_count c.loop-index-test.true
    (is_part_first c.args.a c.loop-index.index c.first_part.result.now c.first_part.ensures)
    (is_part_first c.args.b c.loop-index.index c.first_part-in-loop-index.result.now c.first_part-in-loop-index.ensures)
    (c.loop-index.invariant a_count b_count) c.if-ne.ensures

pub returns-then-ne : goal.returns-then-ne
returns-then-ne c = λ a_count b_count.
    items_differ same (items_of (first_value c.args.a)) (items_of (first_value c.args.b)) c.loop-index.index c.args.count c.first_part.result.now c.first_part-in-loop-index.result.now (first_value c.args.a) (first_value c.args.b) a_count b_count c.loop-index-test.true
    (is_part_first c.args.a c.loop-index.index c.first_part.result.now c.first_part.ensures)
    (is_part_first c.args.b c.loop-index.index c.first_part-in-loop-index.result.now c.first_part-in-loop-index.ensures)
    (c.loop-index.invariant a_count b_count) c.if-ne.ensures

pub returns : goal.returns
returns c = λ a_count b_count.
    items_end same (items_of (first_value c.args.a)) (items_of (first_value c.args.b)) c.loop-index.index c.args.count a_count b_count c.loop-index-test.false (c.loop-index.invariant a_count b_count)
