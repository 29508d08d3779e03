use Rattle.std.proofs.Common.{◌≡◌, take, is_some}
use Rattle.std.specs.Prelude.{filter}
use Rattle.plans.specs.Plans.{composition}
use Rattle.io_automata.specs.Signatures.{kind_of}
use Rattle.plans.proofs.plan.Plan.with_action.Given as goal

abbrev pub invariant-loop-j : goal.invariant-loop-j
invariant-loop-j l = l.takers.items ≡ filter (λ j. is_some (kind_of (composition l.self) j l.action)) (take l.j-index l.numbers)
