use Rattle.std.proofs.Common.{◌≡◌, ◌<◌, ◌≤◌, ◌^◌, ◌∙◌, Some, refl, subst, sym}
use Rattle.std.specs.Prelude.{slice_get, length}
use Rattle.std.proofs.lemmas.Bool.{ltb-false, ltb-true}
use Rattle.std.proofs.lemmas.Option.{slice_get_read}
use Rattle.groups.specs.Windows.{IsFirst}
use Rattle.groups.specs.Tournament.{key_at}
use Rattle.groups.proofs.Seated.{first_of, none_of}
use Rattle.groups.proofs.seating.first_place.Goals as goal

pub returns-then-not-has_next-clause-none : goal.returns-then-not-has_next-clause-none
returns-then-not-has_next-clause-none g c = λ _.
    let seats = c.args.seats.now in
    let first = c.in_ok-first.field-0.now in
    let lookup = c.in_ok-first.ensures.lookup in
    let there : slice_get seats 1 ≡ Some first = slice_get_read seats (length seats) 1 first refl (ltb-true 1 (length seats) (sym lookup.0)) lookup.1 in
    let none : 2 ^ 144 ≤ key_at first = ltb-false (key_at first) (2 ^ 144) (sym c.has_next.ensures ∙ c.if-not-has_next.true) in
    none_of g.T.Turns.turn_of c.args.components.now seats c.requires.seated first there none

pub returns-clause-some : goal.returns-clause-some
returns-clause-some g c =
    let seats = c.args.seats.now in
    let first = c.in_ok-first.field-0.now in
    let lookup = c.in_ok-first.ensures.lookup in
    let there : slice_get seats 1 ≡ Some first = slice_get_read seats (length seats) 1 first refl (ltb-true 1 (length seats) (sym lookup.0)) lookup.1 in
    let small : key_at first < 2 ^ 144 = ltb-true (key_at first) (2 ^ 144) (sym c.has_next.ensures ∙ c.if-not-has_next.false) in
    subst (IsFirst g.T.Turns.turn_of c.args.components.now) (sym c.from.ensures) (first_of g.T.Turns.turn_of c.args.components.now seats c.requires.seated first there small)
