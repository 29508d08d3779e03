use Rattle.std.proofs.Common.{refl, ap, sym, ◌∙◌}
use Rattle.std.proofs.lemmas.Option.{get_or_from_slice_get}
use Rattle.rollback.proofs.Sending.{end_is}
use Rattle.groups.specs.GroupView.{key_of_next}
use Rattle.groups.proofs.Least.{least_first, least_none}
use Rattle.groups.proofs.seating.least_bound.Goals as goal

pub returns-in-None : goal.returns-in-None
returns-in-None g c = λ setup. sym (least_none g.T.Turns.turn_of setup c.args.components.now (c.in-None.ensures.none refl) ∙ end_is)

pub returns-in-Some : goal.returns-in-Some
returns-in-Some g c = λ setup.
    let t = g.T.Turns.turn_of in
    let cs = c.args.components.now in
    let f = c.in-Some.ensures.some in
    c.next.ensures ∙ ap (key_of_next t) (c.index-components-place.is ∙ get_or_from_slice_get cs c.in-Some.place f.c c.index-components-place.result f.there) ∙ sym (least_first t setup cs c.in-Some.place f)
