use Rattle.std.proofs.Common.{subst}
use Rattle.std.specs.Arc.{arc_value}
use Rattle.event_keys.specs.declared.message.Sign.TheVariants.{Plus, Minus}
use Rattle.virtual_time.specs.Bags.{IsSorted}
use Rattle.task_seed.specs.Setups.{system}
use Rattle.rollback.specs.ComponentView.{ComponentView, machine_of}
use Rattle.rollback.proofs.Flight.{items_sorted}
use Rattle.rollback.proofs.component.Component.lists_law.Goals as goal

pub returns-clause-pending : goal.returns-clause-pending
returns-clause-pending g c =
    let f = c.self.inside in
    subst (λ (h : ComponentView _). IsSorted (machine_of g.T.Turns.turn_of h.setup) h.history.pending) c.self.view_is
    (items_sorted (system g.T.Turns.turn_of (arc_value f.setup)) Plus f.number f.pending.after c.self.invariant.0.waiting.order c.self.invariant.0.waiting.go)

pub returns-clause-owed : goal.returns-clause-owed
returns-clause-owed g c =
    let f = c.self.inside in
    subst (λ (h : ComponentView _). IsSorted (machine_of g.T.Turns.turn_of h.setup) h.history.owed) c.self.view_is
    (items_sorted (system g.T.Turns.turn_of (arc_value f.setup)) Minus f.number f.owed.after c.self.invariant.0.owing.order c.self.invariant.0.owing.go)
