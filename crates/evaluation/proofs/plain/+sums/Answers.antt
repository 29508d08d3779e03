use Rattle.std.proofs.Common.{rules}
use Rattle.terms.specs.Datum.{Just}
use Rattle.terms.specs.Linked.{read_by}
use Rattle.terms.specs.Scopes.{scope}
use Rattle.terms.specs.declared.scalar.Scalar.TheVariants.{Int}
use Rattle.evaluation.proofs.plain.+sums.Goals as goal

pub number_made_up-returns : goal.number_made_up-returns
number_made_up-returns g t c =
    read_by (λ n. Just (Int n)) c.args.term.now c.as_slice.result.now (scope c.args.env.now) (g.C.Cells.values c.args.cells.now) (Just (Int c.in_ok-first.first)) c.made_up_on.result
    c.as_slice.ensures.value (search rules) (search rules)
