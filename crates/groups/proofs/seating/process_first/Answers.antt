use Rattle.std.proofs.Common.{◌≡◌, ◌<◌, length, ap, sym, subst, ◌∙◌, arith}
use Rattle.std.proofs.lemmas.List.{length-set}
use Rattle.std.proofs.lemmas.Option.{slice_get_within}
use Rattle.rollback.specs.Stepped.{stepped}
use Rattle.groups.specs.Crew.{AreSeatedBut}
use Rattle.groups.proofs.Seated.{others_seated}
use Rattle.groups.proofs.seating.process_first.Goals as goal

pub returns-then-not-may_go_on-clause-stop : goal.returns-then-not-may_go_on-clause-stop
returns-then-not-may_go_on-clause-stop g c =
    let f = c.in-Some.ensures.some in
    record { place = c.in-Some.place; first = f; answer = sym (c.may_go_on.ensures f.c f.there) ∙ c.if-not-may_go_on.true }

pub process_at-requires-after_bounds : goal.process_at-requires-after_bounds
process_at-requires-after_bounds g c = λ _ _. let f = c.in-Some.ensures.some in slice_get_within c.args.components.now c.in-Some.place f.c f.there

pub returns-in_default-process_at-clause-stop : goal.returns-in_default-process_at-clause-stop
returns-in_default-process_at-clause-stop g c =
    let f = c.in-Some.ensures.some in
    record { place = c.in-Some.place; first = f; answer = sym (c.may_go_on.ensures f.c f.there) ∙ c.if-not-may_go_on.false }

pub seat_anew-requires-clause-there : goal.seat_anew-requires-clause-there
seat_anew-requires-clause-there g c = λ _ _.
    let t = g.T.Turns.turn_of in
    let cs = c.args.components.now in
    let place = c.in-Some.place in
    let f = c.in-Some.ensures.some in
    let done = c.in-Ok.ensures.done f.c f.there in
    let within : place < length cs = slice_get_within cs place f.c f.there in
    let long : length c.process_at.new.components ≡ length cs = ap length done.0 ∙ length-set cs place (stepped t f.c) in
    omega (arith, long, within)

pub seat_anew-requires-clause-others : goal.seat_anew-requires-clause-others
seat_anew-requires-clause-others g c = λ _ _.
    let t = g.T.Turns.turn_of in
    let cs = c.args.components.now in
    let f = c.in-Some.ensures.some in
    let done = c.in-Ok.ensures.done f.c f.there in
    subst (λ xs. AreSeatedBut t xs c.in-Some.place c.args.seats.now) (sym done.0) (others_seated t cs c.in-Some.place (stepped t f.c) c.args.seats.now c.requires.seated)

pub returns-clause-done : goal.returns-clause-done
returns-clause-done g c =
    let f = c.in-Some.ensures.some in
    let done = c.in-Ok.ensures.done f.c f.there in
    record { place = c.in-Some.place; first = f; has = c.in-Ok.ensures.key f.c f.there; room = sym (c.may_go_on.ensures f.c f.there) ∙ c.if-not-may_go_on.false; becomes = done.0; posts = done.1 }
