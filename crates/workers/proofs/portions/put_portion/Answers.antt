use Rattle.std.proofs.Common.{rules, ◌≡◌, ◌++◌, ◌∙◌, ap, arith, reverse, subst, sym}
use Rattle.std.specs.Prelude.{Err, IfErr, Result}
use Rattle.workers.proofs.Putting.{all_fit, all_put, next_put, next_stopped, none_put}
use Rattle.workers.proofs.portions.put_portion.Goals as goal

failed_with : {A E : Type 0} (P : E → Type 0) (r : Result A E) (e : E) → r ≡ Err e → P e → IfErr r P
failed_with P r e is p = subst (λ x. IfErr x P) (sym is) p

pub loop-turned-init : goal.loop-turned-init
loop-turned-init g c =
    let turns = c.args.turns.now in
    none_put c.args.out.now c.args.before (omega arith) (c.into_iter-turned-iterator.ensures.into_iter_gives ∙ c.iter-turned-items.ensures ∙ ap (λ l. reverse l ++ turns.after) c.requires.front)

pub loop-turned-preserved : goal.loop-turned-preserved
loop-turned-preserved g c = next_put c.in-Some.turned.now c.loop-turned.invariant c.in-Some.ensures.steps c.fits.ensures c.in_ok-written.ensures.ok

pub returns-in_err-written-clause-err : goal.returns-in_err-written-clause-err
returns-in_err-written-clause-err g c =
    failed_with _ c.from_residual.result c.in_err-written.field-0.0 (search rules)
    (next_stopped c.in-Some.turned.now c.loop-turned.invariant c.in-Some.ensures.steps c.fits.ensures c.in_err-written.ensures.err)

pub returns-clause-keys : goal.returns-clause-keys
returns-clause-keys g c = all_fit c.in-None.ensures.steps.0 c.loop-turned.invariant

pub returns-clause-ok : goal.returns-clause-ok
returns-clause-ok g c = all_put c.in-None.ensures.steps.0 c.loop-turned.invariant
