use Rattle.std.proofs.Common.{◌+◌, ◌<◌, rules, sym, subst, ◌∙◌, arith}
use Rattle.std.proofs.lemmas.Option.{get_or_from_slice_get}
use Rattle.groups.specs.Crew.{IsSeatOf}
use Rattle.groups.proofs.Seated.{all_seated, one_seated}
use Rattle.groups.proofs.seating.seat_all.Goals as goal

pub loop-place-preserved : goal.loop-place-preserved
loop-place-preserved g c =
    let t = g.T.Turns.turn_of in
    let cs = c.args.components.now in
    let place = c.loop-place.place in
    one_seated t (λ p. p < place) (λ p. p < place + 1) cs place c.loop-place.seats c.put.new.nodes (λ p wide ne. omega (arith, wide, ne)) (search rules) c.loop-place.invariant c.put.ensures.tournament
    (λ d at. subst (IsSeatOf t place d) (sym c.put.ensures.own) (subst (λ x. IsSeatOf t place x c.seat_of-seat.result) (c.index-components-place.is ∙ get_or_from_slice_get cs place d c.index-components-place.result at) c.seat_of-seat.ensures))
    c.put.ensures.others

pub returns : goal.returns
returns g c = all_seated g.T.Turns.turn_of c.args.components.now c.loop-place.place c.loop-place.seats c.loop-place-test.false c.loop-place.invariant
