use Rattle.std.proofs.Common.{map, rules}
use Rattle.evaluation.proofs.Values.{one_more, value_by}
use Rattle.evaluation.specs.Seen.{seen}
use Rattle.terms.specs.Linked.{values_on}
use Rattle.terms.specs.Scopes.{scope}
use Rattle.terms.specs.TermTree.{link_tree}
use Rattle.evaluation.proofs.look.+look.Goals as goal

pub look-returns : goal.look-returns
look-returns g t c =
    value_by c.args.term.now c.as_slice.result.now (scope c.args.env.now) (g.C.Cells.values c.args.cells.now) (seen c.in_ok-first.first) c.look_on.result
    c.as_slice.ensures.value (search rules) c.look_on.ensures

pub look_on-loop-link-preserved : goal.look_on-loop-link-preserved
look_on-loop-link-preserved g t c =
    one_more c.args.links.now c.loop-link.link-index c.link-item.result (scope c.args.env.now) (g.C.Cells.values c.args.cells.now) (seen c.loop-link.value) (seen c.in_ok-value.value)
    (values_on (map link_tree c.args.links.now) (scope c.args.env.now) (g.C.Cells.values c.args.cells.now) (seen c.args.first))
    c.link-item.is c.loop-link-test.true c.in_ok-value.ensures c.loop-link.invariant
