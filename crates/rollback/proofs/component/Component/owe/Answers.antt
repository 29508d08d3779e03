use Rattle.std.proofs.Common.{◌≡◌, true, sym, ap, subst, ◌∙◌}
use Rattle.std.specs.Arc.{arc_value}
use Rattle.event_keys.specs.declared.message.Sign.TheVariants.{Minus}
use Rattle.virtual_time.specs.Bags.{insert}
use Rattle.task_seed.specs.Setups.{system}
use Rattle.task_seed.specs.Machines.{machine}
use Rattle.rollback.specs.Flight.{goes, item_of, items_of}
use Rattle.rollback.specs.ComponentView.{ComponentView, machine_of}
use Rattle.rollback.specs.ComponentInvariant.{record_of}
use Rattle.rollback.proofs.Keeping.{with_owing, queue_insert, queue_items_insert}
use Rattle.rollback.proofs.component.Component.owe.Goals as goal

pub invariant_of-self : goal.invariant_of-self
invariant_of-self g c =
    let f = c.self.inside in
    let s = system g.T.Turns.turn_of (arc_value f.setup) in
    let goes_there : goes Minus f.number c.args.cell ≡ true = subst (λ (h : ComponentView _). goes Minus h.number c.args.cell ≡ true) (sym c.self.view_is) c.requires in
    (rw c.put.ensures.queue (with_owing s f.number f.first f.store f.done f.pending f.owed (record f.owed { after = _ }) f.coming c.self.invariant.0 (queue_insert s f.number Minus f.owed c.args.cell c.self.invariant.0.owing c.put.ensures.fits goes_there c.put.ensures.timed)), c.self.invariant.1, c.self.invariant.2)

pub returns : goal.returns
returns g c =
    let f = c.self.inside in
    let s = system g.T.Turns.turn_of (arc_value f.setup) in
    let goes_there : goes Minus f.number c.args.cell ≡ true = subst (λ (h : ComponentView _). goes Minus h.number c.args.cell ≡ true) (sym c.self.view_is) c.requires in
    let items : items_of c.put.new.queue.after ≡ insert (machine s) (item_of c.args.cell) (items_of f.owed.after)
    = ap (λ q. items_of q.after) c.put.ensures.queue ∙ queue_items_insert s f.number Minus f.owed c.args.cell c.self.invariant.0.owing c.put.ensures.fits goes_there in
    subst (λ (h : ComponentView _). ◌≡◌ {A = ComponentView _} (record { setup = arc_value f.setup; number = f.number; base = f.base; history = record (record_of f.store f.first f.done f.pending f.owed) { owed = items_of c.put.new.queue.after } }) (record h { history = record h.history { owed = insert (machine_of g.T.Turns.turn_of h.setup) (item_of c.args.cell) h.history.owed } })) c.self.view_is
    (ap (λ l. record { setup = arc_value f.setup; number = f.number; base = f.base; history = record (record_of f.store f.first f.done f.pending f.owed) { owed = l } }) items)
