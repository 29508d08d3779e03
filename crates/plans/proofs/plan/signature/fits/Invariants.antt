use Rattle.std.proofs.Common.{◌≡◌, drop}
use Rattle.io_automata.specs.Signatures.{fits}
use Rattle.plans.proofs.plan.signature.fits.Given as goal

abbrev pub invariant-loop-k : goal.invariant-loop-k
invariant-loop-k l = fits l.formals l.params l.args ≡ fits l.formals (drop l.k l.params) (drop l.k l.args)
