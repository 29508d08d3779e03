use Rattle.std.proofs.Common.{◌≡◌, [], ap, subst, ◌∙◌}
use Rattle.event_keys.specs.declared.message.Sign.TheVariants.{Plus}
use Rattle.task_seed.specs.Setups.{system}
use Rattle.rollback.specs.ComponentView.{ComponentView}
use Rattle.rollback.specs.ComponentInvariant.{signed_by, signed_of, turn_receivers}
use Rattle.rollback.proofs.Sending.{posted_turn}
use Rattle.rollback.proofs.Stepping.{turn_sent}
use Rattle.rollback.proofs.component.Component.do_copied.Goals as goal

pub returns-clause-of_sender : goal.returns-clause-of_sender
returns-clause-of_sender g c =
    let t = g.T.Turns.turn_of in
    let own = c.args.self.now in
    let turned = c.args.turned in
    let cells = c.in_ok-of_sender.of_sender in
    let receivers : c.as_slice.result.now ≡ turn_receivers (system t own.setup) own.number turned.outcome
    = c.as_slice.ensures ∙ subst (λ (h : ComponentView _). c.in_ok-receivers.receivers.items ≡ turn_receivers (system t h.setup) h.number turned.outcome) c.self.view_is
    (subst (λ u. c.in_ok-receivers.receivers.items ≡ turn_receivers (system t u) c.self.inside.number turned.outcome) c.deref.ensures c.in_ok-receivers.ensures) in
    let old = c.args.copies.now.of_sender in
    let ready : cells ≡ record { before = signed_of (system t own.setup) Plus own.number turned.key turned.outcome; after = [] }
    = c.in_ok-of_sender.ensures ∙ ap (λ js. record { before = signed_by Plus turned.key turned.outcome js; after = [] }) receivers in
    turn_sent (system t own.setup) own.number own.history turned old c.post_all.new.out c.requires.next
    (posted_turn (system t own.setup) Plus own.number turned cells old c.post_all.new.out c.fits.ensures.numbers c.receivers_law.ensures.once c.receivers_law.ensures.all c.post_all.ensures.order ready c.post_all.ensures.posted)

pub returns-clause-of_receiver : goal.returns-clause-of_receiver
returns-clause-of_receiver g c =
    let t = g.T.Turns.turn_of in
    let own = c.args.self.now in
    let turned = c.args.turned in
    let cells = c.in_ok-of_receiver.of_receiver in
    let receivers : c.as_slice-2.result.now ≡ turn_receivers (system t own.setup) own.number turned.outcome
    = c.as_slice-2.ensures ∙ subst (λ (h : ComponentView _). c.in_ok-receivers.receivers.items ≡ turn_receivers (system t h.setup) h.number turned.outcome) c.self.view_is
    (subst (λ u. c.in_ok-receivers.receivers.items ≡ turn_receivers (system t u) c.self.inside.number turned.outcome) c.deref.ensures c.in_ok-receivers.ensures) in
    let old = c.args.copies.now.of_receiver in
    let ready : cells ≡ record { before = signed_of (system t own.setup) Plus own.number turned.key turned.outcome; after = [] }
    = c.in_ok-of_receiver.ensures ∙ ap (λ js. record { before = signed_by Plus turned.key turned.outcome js; after = [] }) receivers in
    turn_sent (system t own.setup) own.number own.history turned old c.post_all-2.new.out c.requires.next
    (posted_turn (system t own.setup) Plus own.number turned cells old c.post_all-2.new.out c.fits.ensures.numbers c.receivers_law.ensures.once c.receivers_law.ensures.all c.post_all-2.ensures.order ready c.post_all-2.ensures.posted)
