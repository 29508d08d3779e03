use Rattle.std.proofs.Common.{map, sym, rules}
use Rattle.terms.specs.Datum.{Just}
use Rattle.evaluation.proofs.Values.{one_more}
use Rattle.terms.specs.Linked.{read_by, tail_by, values_on}
use Rattle.terms.specs.TermTree.{link_tree}
use Rattle.terms.specs.Scopes.{scope}
use Rattle.evaluation.proofs.glance.+glance.Goals as goal

pub items_of-returns-in_ok-items_in-in-Tail : goal.items_of-returns-in_ok-items_in-in-Tail
items_of-returns-in_ok-items_in-in-Tail g t c =
    tail_by c.args.operand.now c.in-Tail.a (scope c.args.env.now) (g.C.Cells.values c.args.cells.now) c.in_ok-items_in-in-Tail.field-0.now c.without_first.result.now
    c.in-Tail.is (search rules) c.without_first.ensures

pub scalar_of-returns : goal.scalar_of-returns
scalar_of-returns g t c =
    read_by Just c.args.term.now c.as_slice.result.now (scope c.args.env.now) (g.C.Cells.values c.args.cells.now) (Just c.in_ok-first.first) c.with_links.result
    c.as_slice.ensures.value (search rules) c.with_links.ensures

pub with_links-loop-link-preserved : goal.with_links-loop-link-preserved
with_links-loop-link-preserved g t c =
    one_more c.args.links.now c.loop-link.link-index c.link-item.result (scope c.args.env.now) (g.C.Cells.values c.args.cells.now) (Just c.loop-link.scalar) (Just c.in_ok-scalar.scalar)
    (values_on (map link_tree c.args.links.now) (scope c.args.env.now) (g.C.Cells.values c.args.cells.now) (Just c.args.first))
    c.link-item.is c.loop-link-test.true (sym c.in_ok-scalar.ensures) c.loop-link.invariant
