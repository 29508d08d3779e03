use Rattle.std.proofs.Common.{List, subst, sym, ◌∙◌}
use Rattle.virtual_time.specs.Replies as theory
use Rattle.virtual_time.specs.Worlds as happening
use Rattle.antimessage.specs.Counts.{plus}
use Rattle.rollback.specs.Flight.{item_of}
use Rattle.event_keys.specs.declared.message.Signed.{Signed}
use Rattle.world.specs.Stepping.{IsStep}
use Rattle.world.proofs.Answering.{step_met}
use Rattle.world.proofs.flight.meet.Goals as goal

pub returns-then-meet-clause-step : goal.returns-then-meet-clause-step
returns-then-meet-clause-step g c = λ bound committed is.
    let t = g.T.Turns.turn_of in
    subst (λ (flight : List Signed). IsStep t (record { setup = c.args.setup.now; components = c.args.components.now; flight = c.args.flight.now; bound = bound; committed = committed }) (happening.Meet c.args.message.now.to (item_of (plus c.args.message.now))) theory.Met (record { setup = c.args.setup.now; components = c.args.components.now; flight = flight; bound = bound; committed = committed })) (sym c.meet.ensures.left)
    (step_met t (record { setup = c.args.setup.now; components = c.args.components.now; flight = c.args.flight.now; bound = bound; committed = committed }) c.laws.ensures is c.order_law.ensures c.args.message.now c.fits.ensures (sym c.meet.ensures.answer ∙ c.if-meet.true))
