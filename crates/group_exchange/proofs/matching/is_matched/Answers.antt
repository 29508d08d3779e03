use Rattle.std.proofs.Common.{◌≡◌, ℕ, true, List, [], length, subst}
use Rattle.std.specs.Prelude.{◌↔◌}
use Rattle.event_keys.specs.declared.message.Sign.TheVariants.{Plus}
use Rattle.event_keys.specs.declared.message.Signed.{Signed}
use Rattle.virtual_time.specs.Machine.{Lawful}
use Rattle.plans.specs.Plans.{composition}
use Rattle.task_seed.specs.Setups.{plan_of}
use Rattle.rollback.specs.ComponentView.{ComponentView, machine_of}
use Rattle.rollback.specs.Flight.{in_flight}
use Rattle.group_exchange.specs.Compared.{AreInside, AreMatched, all_sent}
use Rattle.group_exchange.proofs.Balanced.{tells}
use Rattle.group_exchange.proofs.matching.is_matched.Goals as goal

pub returns : goal.returns
returns g c =
    let t = g.T.Turns.turn_of in
    let v = c.args.group.now in
    let stub = c.args.stub.now in
    let law : Lawful (machine_of t v.setup) = subst (λ p. Lawful (machine_of t p)) c.setup.ensures c.machine_is_lawful.ensures.lawful in
    tells t (length (composition (plan_of v.setup))) v law c.soundness_law.ensures.members c.requires.valid stub c.in_ok-sent.sent c.inside_of-within.result c.in_ok-taken.taken c.in_ok-standing.standing
    (subst (λ (cs : List (ComponentView _)). (j : ℕ) → in_flight Plus j c.in_ok-sent.sent ≡ all_sent t cs j []) c.components.ensures c.in_ok-sent.ensures)
    (subst (λ (cs : List (ComponentView _)). AreInside cs c.in_ok-sent.sent c.inside_of-within.result) c.components-2.ensures c.inside_of-within.ensures)
    c.in_ok-taken.ensures c.in_ok-standing.ensures c.requires.base c.requires.floor c.are_matched.result
    (subst (λ (xs : List Signed). (c.are_matched.result ≡ true) ↔ AreMatched t v.components c.in_ok-taken.taken c.in_ok-standing.standing v.tray xs) c.out.ensures
    (subst (λ (xs : List Signed). (c.are_matched.result ≡ true) ↔ AreMatched t v.components c.in_ok-taken.taken c.in_ok-standing.standing xs c.out.result.now) c.tray.ensures
    (subst (λ (cs : List (ComponentView _)). (c.are_matched.result ≡ true) ↔ AreMatched t cs c.in_ok-taken.taken c.in_ok-standing.standing c.tray.result.now c.out.result.now) c.components-3.ensures c.are_matched.ensures)))
