use Rattle.std.proofs.Common.{◌≡◌, take}
use Rattle.std.specs.Prelude.{filter}
use Rattle.plans.specs.Plans.{composition}
use Rattle.io_automata.specs.Signatures.{receives}
use Rattle.plans.proofs.plan.Plan.receivers_among.Given as goal

abbrev pub invariant-loop-j : goal.invariant-loop-j
invariant-loop-j l = l.receivers.items ≡ filter (receives (composition l.self) l.sender l.action) (take l.j-index l.numbers)
