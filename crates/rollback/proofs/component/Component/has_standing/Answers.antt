use Rattle.std.proofs.Common.{◌≡◌, true, sym, subst, ◌∙◌}
use Rattle.std.specs.Prelude.{◌↔◌}
use Rattle.std.specs.Arc.{arc_value}
use Rattle.task_seed.specs.Setups.{system}
use Rattle.message_balance.specs.declared.sent.Sent.{Sent}
use Rattle.rollback.specs.ComponentView.{ComponentView, machine_of}
use Rattle.message_balance.specs.Balance.{is_all_sent}
use Rattle.rollback.specs.Matched.{IsStanding}
use Rattle.rollback.proofs.Even.{all_sent_by}
use Rattle.rollback.proofs.Standing.{standing_is}
use Rattle.rollback.proofs.component.Component.has_standing.Goals as goal

pub returns-then-has_same_messages : goal.returns-then-has_same_messages
returns-then-has_same_messages g c =
    let f = c.self.inside in
    let s = system g.T.Turns.turn_of (arc_value f.setup) in
    let t : Sent = record { standing = c.args.standing; out = c.args.out; done = record { ref_ptr = c.args.self.ref_ptr; now = f.done } } in
    let all : c.has_same_messages.result ≡ is_all_sent t f.number
    = c.if-has_same_messages.true ∙ sym (all_sent_by s f.number f.first c.receivers_law.ensures.once t c.self.invariant.0.ready c.self.invariant.0.ahead (c.has_same_messages.ensures c.if-has_same_messages.true)) in
    subst (λ (h : ComponentView _). (c.has_same_messages.result ≡ true) ↔ IsStanding (machine_of g.T.Turns.turn_of h.setup) h.number h.history c.args.standing.now c.args.out.now) c.self.view_is
    (standing_is s f.number c.is_short.ensures c.receivers_law.ensures.all f.first f.store f.coming f.pending f.owed t c.has_same_messages.result all c.self.invariant.0 c.order_law.ensures c.order_law-2.ensures)

pub returns-else-has_same_messages : goal.returns-else-has_same_messages
returns-else-has_same_messages g c =
    let f = c.self.inside in
    let t : Sent = record { standing = c.args.standing; out = c.args.out; done = record { ref_ptr = c.args.self.ref_ptr; now = f.done } } in
    subst (λ (h : ComponentView _). (c.is_all_balanced.result ≡ true) ↔ IsStanding (machine_of g.T.Turns.turn_of h.setup) h.number h.history c.args.standing.now c.args.out.now) c.self.view_is
    (standing_is (system g.T.Turns.turn_of (arc_value f.setup)) f.number c.is_short.ensures c.receivers_law.ensures.all f.first f.store f.coming f.pending f.owed t c.is_all_balanced.result c.is_all_balanced.ensures c.self.invariant.0 c.order_law.ensures c.order_law-2.ensures)
