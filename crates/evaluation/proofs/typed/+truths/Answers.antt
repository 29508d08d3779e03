use Rattle.std.proofs.Common.{rules}
use Rattle.terms.specs.Datum.{Just}
use Rattle.terms.specs.Linked.{read_by}
use Rattle.terms.specs.Scopes.{scope}
use Rattle.terms.specs.declared.scalar.Scalar.TheVariants.{Int, Bool}
use Rattle.evaluation.proofs.typed.+truths.Goals as goal

pub truth_worked_out-returns-in-Some : goal.truth_worked_out-returns-in-Some
truth_worked_out-returns-in-Some g t c =
    read_by (λ t. Just (Bool t)) c.args.term.now c.as_slice-links.result.now (scope c.args.env.now) (g.C.Cells.values c.args.cells.now) (Just (Bool c.in-Some.first)) c.truths_on.result
    c.as_slice-links.ensures.value (search rules) (search rules)

pub truth_worked_out-returns-in_ok-first-in-None : goal.truth_worked_out-returns-in_ok-first-in-None
truth_worked_out-returns-in_ok-first-in-None g t c =
    read_by (λ t. Just (Bool t)) c.args.term.now c.as_slice-links.result.now (scope c.args.env.now) (g.C.Cells.values c.args.cells.now) (Just (Int c.in_ok-first-in-None.first)) c.truths_on-in-None.result
    c.as_slice-links.ensures.value (search rules) (search rules)
