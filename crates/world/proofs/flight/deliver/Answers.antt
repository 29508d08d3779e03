use Rattle.std.proofs.Common.{◌≡◌, ◌<◌, Some, is_some, List, ap, length, refl, subst, subst₂, sym, ◌∙◌}
use Rattle.std.specs.Prelude.{slice_get, slice_set}
use Rattle.antimessage.specs.Bags.{is_one}
use Rattle.event_keys.specs.declared.message.Sign.TheVariants.{Minus}
use Rattle.virtual_time.specs.Records.{unsent}
use Rattle.rollback.specs.Post.{IsPosted}
use Rattle.virtual_time.specs.Replies as theory
use Rattle.rollback.specs.Flight.{item_of}
use Rattle.rollback.specs.ComponentView.{back_by, comes, machine_of}
use Rattle.world.specs.Steps.{delivery}
use Rattle.task_seed.specs.declared.setup.Setup.{Setup}
use Rattle.rollback.specs.ComponentView.{ComponentView}
use Rattle.event_keys.specs.declared.message.Signed.{Signed}
use Rattle.world.specs.Simulation.{Simulation}
use Rattle.world.specs.Stepping.{IsStep}
use Rattle.world.proofs.Answering.{is_there, no_delivery, receiver, refused, step_delivered}
use Rattle.world.proofs.flight.deliver.Goals as goal

pub deliver_at-requires-clause-there : goal.deliver_at-requires-clause-there
deliver_at-requires-clause-there g c κs within =
    let t = g.T.Turns.turn_of in
    let stands = c.requires in
    let w : Simulation _ = record { setup = c.args.setup.now; components = c.args.components.now; flight = c.args.flight.now; bound = stands.0; committed = stands.1 } in
    let signed = c.args.signed.now in
    let same : c.in-Some.cell ≡ signed = c.take_equal_law.ensures.same signed c.in-Some.cell c.args.flight.now (sym c.take_equal.ensures.taken ∙ c.in-Some.is) in
    let has_it = sym (is_there t w c.laws.ensures stands.2 c.order_law.ensures signed.message c.fits.ensures signed.sign) ∙ ap is_some (sym c.take_equal.ensures.taken ∙ c.in-Some.is) in
    subst (λ (x : Signed). x.message.to < length c.args.components.now) (sym same) (receiver t w c.laws.ensures stands.2 c.order_law.ensures signed.message c.fits.ensures signed.sign has_it)

pub deliver_at-requires-clause-number : goal.deliver_at-requires-clause-number
deliver_at-requires-clause-number g c κs within = λ x at. (c.requires.2.components c.in-Some.cell.message.to x at).number

pub returns-in-Some-clause-step : goal.returns-in-Some-clause-step
returns-in-Some-clause-step g c = λ bound committed is.
    let t = g.T.Turns.turn_of in
    let w : Simulation _ = record { setup = c.args.setup.now; components = c.args.components.now; flight = c.args.flight.now; bound = bound; committed = committed } in
    let signed = c.args.signed.now in
    let same : c.in-Some.cell ≡ signed = c.take_equal_law.ensures.same signed c.in-Some.cell c.args.flight.now (sym c.take_equal.ensures.taken ∙ c.in-Some.is) in
    let has_it = sym (is_there t w c.laws.ensures is c.order_law.ensures signed.message c.fits.ensures signed.sign) ∙ ap is_some (sym c.take_equal.ensures.taken ∙ c.in-Some.is) in
    let done = subst₂ (λ (x : Signed) (bag : List Signed). (h : ComponentView (Setup _)) → slice_get c.args.components.now x.message.to ≡ Some h → (c.deliver_at.new.components ≡ slice_set c.args.components.now x.message.to (record h { history = comes (machine_of t h.setup) x.sign (item_of x) h.history })) × IsPosted Minus (unsent (machine_of t h.setup) h.number (back_by (machine_of t h.setup) x.sign (item_of x) h.history)) bag c.deliver_at.new.flight) same c.take_equal.ensures.rest c.deliver_at.ensures.done in
    let count = subst (λ (x : Signed). (h : ComponentView (Setup _)) → slice_get c.args.components.now x.message.to ≡ Some h → c.deliver_at.result ≡ length (back_by (machine_of t h.setup) x.sign (item_of x) h.history)) same c.deliver_at.ensures.count in
    step_delivered t w c.laws.ensures is c.order_law.ensures signed.message c.fits.ensures signed.sign c.deliver_at.result c.deliver_at.new.components c.deliver_at.new.flight has_it done count

pub returns-in-None-clause-step : goal.returns-in-None-clause-step
returns-in-None-clause-step g c = λ bound committed is.
    let t = g.T.Turns.turn_of in
    let w : Simulation _ = record { setup = c.args.setup.now; components = c.args.components.now; flight = c.args.flight.now; bound = bound; committed = committed } in
    let signed = c.args.signed.now in
    let none = sym c.take_equal.ensures.taken ∙ c.in-None.is in
    let has_none = sym (is_there t w c.laws.ensures is c.order_law.ensures signed.message c.fits.ensures signed.sign) ∙ ap is_some none in
    let kept : c.take_equal.new.self ≡ c.args.flight.now = c.take_equal.ensures.rest ∙ c.take_law.ensures.kept (is_one signed) c.args.flight.now none in
    subst (λ (flight : List Signed). IsStep t w (delivery signed.sign signed.message) (theory.Refused 32) (record w { flight = flight })) (sym kept)
    (refused t w c.laws.ensures is (delivery signed.sign signed.message) (theory.Refused 32) (no_delivery t w c.laws.ensures is c.order_law.ensures signed.message c.fits.ensures signed.sign has_none))

pub returns-in-None-clause-kept : goal.returns-in-None-clause-kept
returns-in-None-clause-kept g c = (refl, c.take_equal.ensures.rest ∙ c.take_law.ensures.kept (is_one c.args.signed.now) c.args.flight.now (sym c.take_equal.ensures.taken ∙ c.in-None.is))
