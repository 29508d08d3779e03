use Rattle.std.proofs.Common.{◌≡◌, [], ap, ◌∙◌}
use Rattle.event_keys.specs.declared.message.Sign.TheVariants.{Plus}
use Rattle.task_seed.specs.Setups.{system}
use Rattle.rollback.specs.ComponentInvariant.{signed_by, signed_of}
use Rattle.rollback.proofs.Sending.{posted_turn}
use Rattle.rollback.proofs.sent.copy_turn.Goals as goal

pub returns : goal.returns
returns g c =
    let t = g.T.Turns.turn_of in
    let turned = c.args.turned.now in
    let ready : c.in_ok-messages.messages ≡ record { before = signed_of (system t c.args.setup.now) Plus c.args.i turned.key turned.outcome; after = [] }
    = c.in_ok-messages.ensures ∙ ap (λ js. record { before = signed_by Plus turned.key turned.outcome js; after = [] }) (c.as_slice.ensures ∙ c.in_ok-receivers.ensures) in
    posted_turn (system t c.args.setup.now) Plus c.args.i turned c.in_ok-messages.messages c.args.sent.now c.post_all.new.out c.fits.ensures.numbers
    c.receivers_law.ensures.once c.receivers_law.ensures.all c.post_all.ensures.order ready c.post_all.ensures.posted
