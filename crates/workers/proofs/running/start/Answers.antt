use Rattle.std.proofs.Common.{◌≡◌, All, [], length, ap, subst, ◌∙◌}
use Rattle.std.specs.Prelude.{IfSome}
use Rattle.std.proofs.lemmas.List.{length-replicate}
use Rattle.std.proofs.lemmas.List.Elements.{All-pop, All-weaker}
use Rattle.gvt.specs.Seats.{IsSeatOf, knowledge}
use Rattle.gvt.specs.declared.word.Seat.{Seat}
use Rattle.plans.specs.Plans.{composition}
use Rattle.task_seed.specs.Setups.{plan_of}
use Rattle.workers.proofs.running.start.Goals as goal

pub gather-requires-clause-seats : goal.gather-requires-clause-seats
gather-requires-clause-seats g c κs within =
    let S : Seat → Type 0 = IsSeatOf c.in_ok-published.published in
    let F : Seat → Type 0 = λ seat. IsSeatOf c.in_ok-published.published seat × (knowledge seat ≡ record { published = 0; read = 0 }) in
    let each : All S c.in_ok-published.seats.items = All-weaker F S (λ seat h. h.0) c.in_ok-published.seats.items c.in_ok-published.ensures.seats in
    (All-pop S c.in_ok-published.seats.items c.pop.new.self.items c.pop.result c.pop.ensures.items each).0

pub returns-clause-caller : goal.returns-clause-caller
returns-clause-caller g c =
    let S : Seat → Type 0 = IsSeatOf c.in_ok-published.published in
    let F : Seat → Type 0 = λ seat. IsSeatOf c.in_ok-published.published seat × (knowledge seat ≡ record { published = 0; read = 0 }) in
    let each : All S c.in_ok-published.seats.items = All-weaker F S (λ seat h. h.0) c.in_ok-published.seats.items c.in_ok-published.ensures.seats in
    let seats = (All-pop S c.in_ok-published.seats.items c.pop.new.self.items c.pop.result c.pop.ensures.items each).1 in
    let start = c.in_ok-made.ensures.start in
    record {
      division = start.division;
      setup_is = start.setup_is;
      rest = start.reader.0;
      seat = subst (λ r. IfSome r S) c.in-Some.is seats;
      many = ap length c.in_ok-parcel.ensures ∙ length-replicate c.components.result [] ∙ c.components.ensures ∙ ap (λ plan. length (composition plan)) c.plan.ensures ∙ ap (λ x. length (composition (plan_of x))) c.deref.ensures;
    }
