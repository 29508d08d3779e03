use Rattle.std.proofs.Common.{◌≡◌, ◌≤◌, true, sym, ap, subst, ◌∙◌}
use Rattle.std.specs.Arc.{arc_value}
use Rattle.event_keys.specs.declared.message.Sign.TheVariants.{Plus}
use Rattle.virtual_time.specs.Bags.{insert}
use Rattle.task_seed.specs.Setups.{system}
use Rattle.task_seed.specs.Machines.{machine}
use Rattle.rollback.specs.Flight.{goes, item_of, items_of}
use Rattle.rollback.specs.ComponentView.{ComponentView, machine_of}
use Rattle.virtual_time.specs.Entries.{latest}
use Rattle.rollback.specs.ComponentInvariant.{entries_of, record_of}
use Rattle.rollback.proofs.Keeping.{with_waiting, waiting_insert, queue_insert, queue_items_insert}
use Rattle.rollback.proofs.component.Component.wait.Goals as goal

pub invariant_of-self : goal.invariant_of-self
invariant_of-self g c =
    let f = c.self.inside in
    let s = system g.T.Turns.turn_of (arc_value f.setup) in
    let goes_there : goes Plus f.number c.args.cell ≡ true = subst (λ (h : ComponentView _). goes Plus h.number c.args.cell ≡ true) (sym c.self.view_is) c.requires.here in
    let late : latest 0 (entries_of f.done.before) ≤ (item_of c.args.cell).key = subst (λ (h : ComponentView _). latest 0 h.history.done ≤ (item_of c.args.cell).key) (sym c.self.view_is) c.requires.late in (
      rw c.put.ensures.queue (with_waiting s f.number f.first f.store f.done f.pending f.owed (record f.pending { after = _ }) f.coming c.self.invariant.0
          (queue_insert s f.number Plus f.pending c.args.cell c.self.invariant.0.waiting c.put.ensures.fits goes_there c.put.ensures.timed)
          (waiting_insert s f.number f.first f.store f.done f.pending f.owed f.coming c.self.invariant.0 c.args.cell c.put.ensures.fits goes_there late)),
      c.self.invariant.1,
      c.self.invariant.2,
    )

pub returns : goal.returns
returns g c =
    let f = c.self.inside in
    let s = system g.T.Turns.turn_of (arc_value f.setup) in
    let goes_there : goes Plus f.number c.args.cell ≡ true = subst (λ (h : ComponentView _). goes Plus h.number c.args.cell ≡ true) (sym c.self.view_is) c.requires.here in
    let items : items_of c.put.new.queue.after ≡ insert (machine s) (item_of c.args.cell) (items_of f.pending.after)
    = ap (λ q. items_of q.after) c.put.ensures.queue ∙ queue_items_insert s f.number Plus f.pending c.args.cell c.self.invariant.0.waiting c.put.ensures.fits goes_there in
    subst (λ (h : ComponentView _). ◌≡◌ {A = ComponentView _} (record { setup = arc_value f.setup; number = f.number; base = f.base; history = record (record_of f.store f.first f.done f.pending f.owed) { pending = items_of c.put.new.queue.after } }) (record h { history = record h.history { pending = insert (machine_of g.T.Turns.turn_of h.setup) (item_of c.args.cell) h.history.pending } })) c.self.view_is
    (ap (λ l. record { setup = arc_value f.setup; number = f.number; base = f.base; history = record (record_of f.store f.first f.done f.pending f.owed) { pending = l } }) items)
