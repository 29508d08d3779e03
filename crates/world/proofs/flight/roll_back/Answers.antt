use Rattle.std.proofs.Common.{List, subst₂, sym, arith}
use Rattle.virtual_time.specs.Replies as theory
use Rattle.virtual_time.specs.Worlds as happening
use Rattle.task_seed.specs.declared.setup.Setup.{Setup}
use Rattle.rollback.specs.ComponentView.{ComponentView}
use Rattle.event_keys.specs.declared.message.Signed.{Signed}
use Rattle.world.specs.Stepping.{IsStep}
use Rattle.world.proofs.Answering.{nothing_rolled_back, refused, step_rolled_back}
use Rattle.world.proofs.flight.roll_back.Goals as goal

pub returns-in-Some-clause-step : goal.returns-in-Some-clause-step
returns-in-Some-clause-step g c = λ bound committed is.
    let i_is = c.from.ensures in
    let low = c.if-from-components.false in
    step_rolled_back g.T.Turns.turn_of (record { setup = c.args.setup.now; components = c.args.components.now; flight = c.args.flight.now; bound = bound; committed = committed }) c.laws.ensures is c.args.i (omega (arith, i_is, low)) c.in-Some.key c.roll_back_at.new.components c.roll_back_at.new.flight c.in-Some.ensures.key c.in-Some.ensures.done

pub returns-in-None-clause-step : goal.returns-in-None-clause-step
returns-in-None-clause-step g c = λ bound committed is.
    let t = g.T.Turns.turn_of in
    let i_is = c.from.ensures in
    let low = c.if-from-components.false in
    let kept = c.in-None.ensures.kept in
    subst₂ (λ (cs : List (ComponentView (Setup _))) (flight : List Signed). IsStep t (record { setup = c.args.setup.now; components = c.args.components.now; flight = c.args.flight.now; bound = bound; committed = committed }) (happening.RollBack c.args.i) (theory.Refused 33) (record { setup = c.args.setup.now; components = cs; flight = flight; bound = bound; committed = committed })) (sym kept.0) (sym kept.1)
    (refused t (record { setup = c.args.setup.now; components = c.args.components.now; flight = c.args.flight.now; bound = bound; committed = committed }) c.laws.ensures is (happening.RollBack c.args.i) (theory.Refused 33) (nothing_rolled_back t (record { setup = c.args.setup.now; components = c.args.components.now; flight = c.args.flight.now; bound = bound; committed = committed }) c.laws.ensures is c.args.i (omega (arith, i_is, low)) c.in-None.ensures.key))
