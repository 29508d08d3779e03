use Rattle.std.proofs.Common.{◌≡◌, sym, subst, ◌∙◌}
use Rattle.std.proofs.lemmas.Option.{get_or_from_slice_get}
use Rattle.groups.specs.Crew.{IsSeatOf}
use Rattle.groups.proofs.Seated.{one_seated}
use Rattle.groups.proofs.seating.seat_anew.Goals as goal

pub returns : goal.returns
returns g c =
    let t = g.T.Turns.turn_of in
    let cs = c.args.components.now in
    let place = c.args.place in
    one_seated t (λ p. p ≡ place → ⊥) (λ p. Unit {0}) cs place c.args.seats.now c.put.new.nodes (λ p all ne. ne) c.requires.there c.requires.others c.put.ensures.tournament
    (λ d at. subst (IsSeatOf t place d) (sym c.put.ensures.own) (subst (λ x. IsSeatOf t place x c.seat_of-seat.result) (c.index-components-place.is ∙ get_or_from_slice_get cs place d c.index-components-place.result at) c.seat_of-seat.ensures))
    c.put.ensures.others
