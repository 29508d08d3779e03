use Rattle.std.proofs.Common.{ℕ, List, All, subst}
use Rattle.std.proofs.lemmas.List.{take_all}
use Rattle.std.proofs.lemmas.List.Elements.{All-more}
use Rattle.std.proofs.lemmas.Result.{err_from_is_err_and}
use Rattle.plans.specs.Plans.{composition}
use Rattle.task_seed.specs.declared.table.Row.{Row}
use Rattle.task_seed.specs.Faults.{HasFault}
use Rattle.task_seed.proofs.Judged.{first_at}
use Rattle.task_seed.proofs.table_turns.check_rows.Goals as goal

pub returns-in_err-check_row-clause-err : goal.returns-in_err-check_row-clause-err
returns-in_err-check_row-clause-err c =
    let returned = err_from_is_err_and c.from_residual.result c.from_residual.ensures.1 in
    let h = c.in_err-check_row.ensures.err in
    rw (returned.1, returned.2) (first_at (composition c.args.plan.now) c.args.rows.now c.loop-k.k _ _ _ c.loop-k-test.true c.loop-k.invariant h.0 h.1 h.2)

pub loop-k-preserved : goal.loop-k-preserved
loop-k-preserved c =
    All-more (λ row. (number : ℕ) → HasFault (composition c.args.plan.now) row number → ⊥) c.args.rows.now c.loop-k.k _ c.loop-k-test.true c.loop-k.invariant c.in_ok-check_row.ensures.ok

pub returns-clause-ok : goal.returns-clause-ok
returns-clause-ok c =
    subst (λ (rows : List Row). All (λ row. (number : ℕ) → HasFault (composition c.args.plan.now) row number → ⊥) rows)
    (take_all c.loop-k.k c.args.rows.now c.loop-k-test.false) c.loop-k.invariant
