use Rattle.std.proofs.Common.{◌≡◌, true, sym, ap, subst, ◌∙◌}
use Rattle.std.specs.Arc.{arc_value}
use Rattle.event_keys.specs.declared.message.Sign.TheVariants.{Plus, Minus}
use Rattle.virtual_time.specs.Bags.{remove, has}
use Rattle.task_seed.specs.Setups.{system}
use Rattle.task_seed.specs.Machines.{machine}
use Rattle.rollback.specs.Flight.{goes, item_of, items_of}
use Rattle.rollback.specs.ComponentView.{ComponentView, machine_of}
use Rattle.rollback.specs.ComponentInvariant.{record_of}
use Rattle.rollback.specs.Post.{opposed}
use Rattle.rollback.proofs.Keeping.{with_owing, queue_remove, queue_items_remove, queue_items_has, opposed_goes}
use Rattle.rollback.proofs.component.Component.take_owed.Goals as goal

pub invariant_of-self : goal.invariant_of-self
invariant_of-self g c =
    let f = c.self.inside in
    let s = system g.T.Turns.turn_of (arc_value f.setup) in
    (rw c.take_other.ensures.rest (with_owing s f.number f.first f.store f.done f.pending f.owed (record f.owed { after = _ }) f.coming c.self.invariant.0 (queue_remove s f.number Minus f.owed (opposed c.args.cell.now) c.self.invariant.0.owing)), c.self.invariant.1, c.self.invariant.2)

pub returns-clause-record : goal.returns-clause-record
returns-clause-record g c =
    let f = c.self.inside in
    let s = system g.T.Turns.turn_of (arc_value f.setup) in
    let goes_there : goes Plus f.number c.args.cell.now ≡ true = subst (λ (h : ComponentView _). goes Plus h.number c.args.cell.now ≡ true) (sym c.self.view_is) c.requires in
    let items : items_of c.take_other.new.queue.after ≡ remove (machine s) (item_of c.args.cell.now) (items_of f.owed.after)
    = ap (λ q. items_of q.after) c.take_other.ensures.rest ∙ queue_items_remove s f.number Minus f.owed (opposed c.args.cell.now) c.self.invariant.0.owing c.take_other.ensures.fits (opposed_goes s f.number Plus c.args.cell.now goes_there) in
    subst (λ (h : ComponentView _). ◌≡◌ {A = ComponentView _} (record { setup = arc_value f.setup; number = f.number; base = f.base; history = record (record_of f.store f.first f.done f.pending f.owed) { owed = items_of c.take_other.new.queue.after } }) (record h { history = record h.history { owed = remove (machine_of g.T.Turns.turn_of h.setup) (item_of c.args.cell.now) h.history.owed } })) c.self.view_is
    (ap (λ l. record { setup = arc_value f.setup; number = f.number; base = f.base; history = record (record_of f.store f.first f.done f.pending f.owed) { owed = l } }) items)

pub returns-clause-answer : goal.returns-clause-answer
returns-clause-answer g c =
    let f = c.self.inside in
    let s = system g.T.Turns.turn_of (arc_value f.setup) in
    let goes_there : goes Plus f.number c.args.cell.now ≡ true = subst (λ (h : ComponentView _). goes Plus h.number c.args.cell.now ≡ true) (sym c.self.view_is) c.requires in
    subst (λ (h : ComponentView _). c.take_other.result ≡ has (machine_of g.T.Turns.turn_of h.setup) (item_of c.args.cell.now) h.history.owed) c.self.view_is
    (c.take_other.ensures.answer ∙ queue_items_has s f.number Minus f.owed (opposed c.args.cell.now) c.self.invariant.0.owing c.take_other.ensures.fits (opposed_goes s f.number Plus c.args.cell.now goes_there))
