use Rattle.std.proofs.Common.{◌≡◌, ◌<◌, Some, length, ap, sym, subst, ◌∙◌, arith}
use Rattle.std.specs.Prelude.{slice_get}
use Rattle.std.proofs.lemmas.List.{length-set}
use Rattle.event_keys.specs.declared.message.Signed.{Signed}
use Rattle.rollback.specs.Stepped.{with_coming}
use Rattle.groups.specs.Crew.{AreSeatedBut, place_in}
use Rattle.groups.proofs.Seated.{member_place, others_seated, there_within}
use Rattle.groups.proofs.seating.deliver_placed.Goals as goal

pub deliver_at-count-requires-clause-there : goal.deliver_at-count-requires-clause-there
deliver_at-count-requires-clause-there g c = λ _ _.
    let cs = c.args.components.now in
    let ps = c.args.places.now in
    let e : c.place_of-place.result ≡ place_in ps c.args.cell.message.to = c.place_of-place.ensures ∙ ap (λ (s : Signed). place_in ps s.message.to) c.value.ensures in
    subst (λ p. p < length cs) (sym e) (member_place cs ps c.args.cell.message.to c.requires.placed c.requires.member)

pub seat_anew-requires-clause-there : goal.seat_anew-requires-clause-there
seat_anew-requires-clause-there g c = λ _ _.
    let t = g.T.Turns.turn_of in
    let cs = c.args.components.now in
    let ps = c.args.places.now in
    let place = c.place_of-place.result in
    let e : place ≡ place_in ps c.args.cell.message.to = c.place_of-place.ensures ∙ ap (λ (s : Signed). place_in ps s.message.to) c.value.ensures in
    let within : place < length cs = subst (λ p. p < length cs) (sym e) (member_place cs ps c.args.cell.message.to c.requires.placed c.requires.member) in
    let found = there_within cs place within in
    let done = c.deliver_at-count.ensures.done found.0 found.1 in
    let long : length c.deliver_at-count.new.components ≡ length cs = ap length done.0 ∙ length-set cs place (with_coming t found.0 c.args.cell) in
    omega (arith, long, within)

pub seat_anew-requires-clause-others : goal.seat_anew-requires-clause-others
seat_anew-requires-clause-others g c = λ _ _.
    let t = g.T.Turns.turn_of in
    let cs = c.args.components.now in
    let ps = c.args.places.now in
    let place = c.place_of-place.result in
    let e : place ≡ place_in ps c.args.cell.message.to = c.place_of-place.ensures ∙ ap (λ (s : Signed). place_in ps s.message.to) c.value.ensures in
    let within : place < length cs = subst (λ p. p < length cs) (sym e) (member_place cs ps c.args.cell.message.to c.requires.placed c.requires.member) in
    let found = there_within cs place within in
    let done = c.deliver_at-count.ensures.done found.0 found.1 in
    subst (λ xs. AreSeatedBut t xs place c.args.seats.now) (sym done.0) (others_seated t cs place (with_coming t found.0 c.args.cell) c.args.seats.now c.requires.seated)

pub returns-clause-came : goal.returns-clause-came
returns-clause-came g c =
    let cs = c.args.components.now in
    let ps = c.args.places.now in
    let place = c.place_of-place.result in
    let to = c.args.cell.message.to in
    let e : place ≡ place_in ps to = c.place_of-place.ensures ∙ ap (λ (s : Signed). place_in ps s.message.to) c.value.ensures in
    let within : place < length cs = subst (λ p. p < length cs) (sym e) (member_place cs ps to c.requires.placed c.requires.member) in
    let found = there_within cs place within in
    let done = c.deliver_at-count.ensures.done found.0 found.1 in
    record {
      place = place;
      c = found.0;
      there = found.1;
      number = c.requires.placed.named to found.0 (subst (λ p. slice_get cs p ≡ Some found.0) e found.1);
      becomes = done.0;
      posts = done.1;
      many = c.deliver_at-count.ensures.count found.0 found.1;
    }
