use Rattle.std.proofs.Common.{inl, refl}
use Rattle.groups.proofs.Roomy.{first_goes_on}
use Rattle.groups.proofs.seating.first_may_go_on.Goals as goal

pub returns-in-None : goal.returns-in-None
returns-in-None g c = inl (c.in-None.ensures.none refl)

pub returns-in-Some : goal.returns-in-Some
returns-in-Some g c =
    let f = c.in-Some.ensures.some in
    first_goes_on g.T.Turns.turn_of c.args.window c.may_go_on.result c.args.components.now c.in-Some.place f (c.may_go_on.ensures f.c f.there)
