use Rattle.std.proofs.Common.{subst}
use Rattle.std.specs.Prelude.{IfOk}
use Rattle.std.specs.Arc.{arc_value}
use Rattle.task_seed.specs.Setups.{system}
use Rattle.task_seed.specs.Machines.{machine}
use Rattle.reference.specs.Standing.{taken_at}
use Rattle.reference.specs.Views.{IsNextTurn, Ran}
use Rattle.reference.proofs.simulator.Reference.step.Goals as goal

pub returns-clause-ok : goal.returns-clause-ok
returns-clause-ok g c =
    let t = g.T.Turns.turn_of in
    let f = c.self.inside in
    let old = f.frontier in
    let new = c.take_next.new.self in
    subst (λ (r : Ran _). IfOk c.take_next.result (λ turn. IsNextTurn (machine (system t r.setup)) r.taken turn (taken_at (system t (arc_value f.setup)) new.places.items new.numbers.items))) c.self.view_is
    (subst (λ p. IfOk c.take_next.result (λ turn. IsNextTurn (machine (system t p)) (taken_at (system t p) old.places.items old.numbers.items) turn (taken_at (system t p) new.places.items new.numbers.items))) c.deref.ensures c.take_next.ensures.ok)
