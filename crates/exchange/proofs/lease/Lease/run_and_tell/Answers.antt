use Rattle.std.proofs.Common.{length, subst}
use Rattle.std.specs.Prelude.{replicate}
use Rattle.plans.specs.Plans.{composition}
use Rattle.task_seed.specs.Setups.{plan_of}
use Rattle.rollback.specs.ComponentView.{machine_of}
use Rattle.exchange.specs.LeaseView.{LeaseView}
use Rattle.exchange.specs.Seen.{MovesBy}
use Rattle.exchange.specs.Windows.{KeepsToWindow}
use Rattle.virtual_time.specs.Worlds.{Process}
use Rattle.exchange.proofs.Windowed.{ahead_within, setup_ahead}
use Rattle.exchange.proofs.lease.Lease.run_and_tell.Goals as goal

pub invariant_of-self : goal.invariant_of-self
invariant_of-self g c =
    let t = g.T.Turns.turn_of in
    let own = c.self.inside.holding in
    let ran = c.run_and_tell-ran in
    let m = machine_of t own.component.setup in
    let n = length (composition (plan_of own.component.setup)) in
    subst (λ p. KeepsToWindow (machine_of t p) (length (composition (plan_of p))) ran.new.self) (setup_ahead m own ran.new.self ran.result.count ran.ensures.ahead)
    (ahead_within m n ran.result.count own ran.new.self ran.ensures.ahead ran.ensures.known ran.ensures.window c.self.invariant)

pub returns-clause-moves : goal.returns-clause-moves
returns-clause-moves g c =
    let ran = c.run_and_tell-ran in
    subst (λ (h : LeaseView _). MovesBy g.T.Turns.turn_of h (replicate ran.result.count (Process h.component.number)) ran.new.self) c.self.view_is ran.ensures.moves
