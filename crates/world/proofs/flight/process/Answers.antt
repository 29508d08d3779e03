use Rattle.std.specs.Prelude.{Result}
use Rattle.std.proofs.Common.{◌≡◌, Err, List, ap, subst₂, sym, ◌∙◌, arith}
use Rattle.virtual_time.specs.Replies as theory
use Rattle.virtual_time.specs.Worlds as happening
use Rattle.rollback.specs.declared.refused.ProcessRefused.{ProcessRefused}
use Rattle.rollback.specs.declared.refused.ProcessRefused.TheVariants.{NoMemory, NothingPending}
use Rattle.task_seed.specs.declared.setup.Setup.{Setup}
use Rattle.rollback.specs.ComponentView.{ComponentView}
use Rattle.event_keys.specs.declared.message.Signed.{Signed}
use Rattle.world.specs.Stepping.{IsStep}
use Rattle.world.proofs.Answering.{not_processed, nothing_processed, refused, step_processed}
use Rattle.world.proofs.flight.process.Goals as goal

apart : {X : Type 0} → ◌≡◌ {A = Result X ProcessRefused} (Err NoMemory) (Err NothingPending) → ⊥
apart e = cc

pub returns-in-Ok-clause-step : goal.returns-in-Ok-clause-step
returns-in-Ok-clause-step g c = λ bound committed is.
    let i_is = c.from.ensures in
    let low = c.if-from-components.false in
    step_processed g.T.Turns.turn_of (record { setup = c.args.setup.now; components = c.args.components.now; flight = c.args.flight.now; bound = bound; committed = committed }) c.laws.ensures is c.args.i (omega (arith, i_is, low)) c.in-Ok.key c.process_at.new.components c.process_at.new.flight c.in-Ok.ensures.key c.in-Ok.ensures.done

pub returns-in-Err-NoMemory-clause-step : goal.returns-in-Err-NoMemory-clause-step
returns-in-Err-NoMemory-clause-step g c = λ bound committed is.
    let t = g.T.Turns.turn_of in
    let i_is = c.from.ensures in
    let low = c.if-from-components.false in
    let kept = c.in-Err-NoMemory.ensures.kept in
    let result : c.process_at.result ≡ Err NoMemory = c.in-Err-NoMemory.is ∙ ap (λ e. Err e) c.in-Err-NoMemory.field-0-is in
    subst₂ (λ (cs : List (ComponentView (Setup _))) (flight : List Signed). IsStep t (record { setup = c.args.setup.now; components = c.args.components.now; flight = c.args.flight.now; bound = bound; committed = committed }) (happening.Process c.args.i) (theory.Refused 1) (record { setup = c.args.setup.now; components = cs; flight = flight; bound = bound; committed = committed })) (sym kept.0) (sym kept.1)
    (refused t (record { setup = c.args.setup.now; components = c.args.components.now; flight = c.args.flight.now; bound = bound; committed = committed }) c.laws.ensures is (happening.Process c.args.i) (theory.Refused 1) (not_processed t (record { setup = c.args.setup.now; components = c.args.components.now; flight = c.args.flight.now; bound = bound; committed = committed }) c.laws.ensures is c.args.i (omega (arith, i_is, low)) (λ x at none. apart (sym result ∙ (c.process_at.ensures.nothing x at).1 none))))

pub returns-in-Err-NothingPending-clause-step : goal.returns-in-Err-NothingPending-clause-step
returns-in-Err-NothingPending-clause-step g c = λ bound committed is.
    let t = g.T.Turns.turn_of in
    let i_is = c.from.ensures in
    let low = c.if-from-components.false in
    let kept = c.in-Err-NothingPending.ensures.kept in
    let result : c.process_at.result ≡ Err NothingPending = c.in-Err-NothingPending.is ∙ ap (λ e. Err e) c.in-Err-NothingPending.field-0-is in
    subst₂ (λ (cs : List (ComponentView (Setup _))) (flight : List Signed). IsStep t (record { setup = c.args.setup.now; components = c.args.components.now; flight = c.args.flight.now; bound = bound; committed = committed }) (happening.Process c.args.i) (theory.Refused 31) (record { setup = c.args.setup.now; components = cs; flight = flight; bound = bound; committed = committed })) (sym kept.0) (sym kept.1)
    (refused t (record { setup = c.args.setup.now; components = c.args.components.now; flight = c.args.flight.now; bound = bound; committed = committed }) c.laws.ensures is (happening.Process c.args.i) (theory.Refused 31) (nothing_processed t (record { setup = c.args.setup.now; components = c.args.components.now; flight = c.args.flight.now; bound = bound; committed = committed }) c.laws.ensures is c.args.i (omega (arith, i_is, low)) (λ x at. (c.process_at.ensures.nothing x at).0 result)))
