use Rattle.std.proofs.Common.{◌≡◌, [], ap, ◌∙◌}
use Rattle.event_keys.specs.declared.message.Sign.TheVariants.{Plus}
use Rattle.task_seed.specs.Setups.{system}
use Rattle.rollback.specs.ComponentInvariant.{signed_by, signed_of}
use Rattle.rollback.proofs.Sending.{posted_turn}
use Rattle.rollback.proofs.growth.take_turn.Goals as goal

pub returns-clause-sent : goal.returns-clause-sent
returns-clause-sent g c =
    let t = g.T.Turns.turn_of in
    let turned = c.args.turned in
    let ready : c.in_ok-messages.messages ≡ record { before = signed_of (system t c.args.setup.now) Plus c.args.i turned.key turned.outcome; after = [] }
    = c.in_ok-messages.ensures ∙ ap (λ js. record { before = signed_by Plus turned.key turned.outcome js; after = [] }) c.requires.receivers in
    posted_turn (system g.T.Turns.turn_of c.args.setup.now) Plus c.args.i c.args.turned c.in_ok-messages.messages c.args.out.now c.post_all.new.out c.fits.ensures.numbers
    c.receivers_law.ensures.once c.receivers_law.ensures.all c.post_all.ensures.order ready c.post_all.ensures.posted
