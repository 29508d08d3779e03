use Rattle.plans.proofs.Fitting.{uneven}
use Rattle.plans.proofs.plan.signature.fits.Goals as goal

pub returns-then-params-args : goal.returns-then-params-args
returns-then-params-args c = uneven c.args.formals.now c.args.params.now c.args.args.now c.if-params-args.true
