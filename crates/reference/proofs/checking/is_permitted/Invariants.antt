use Rattle.std.proofs.Common.{◌<◌, ℕ, true, get_or}
use Rattle.plans.specs.Plans.{composition}
use Rattle.reference.specs.Verdicts.{IsPermittedBy, state_at}
use Rattle.reference.proofs.checking.is_permitted.Given as goal

abbrev pub invariant-loop-i : goal.invariant-loop-i
invariant-loop-i l = (k : ℕ) → k < l.i-index → IsPermittedBy (composition l.plan) l.action (get_or l.takers k 0) (state_at l.states (get_or l.takers k 0)) true
