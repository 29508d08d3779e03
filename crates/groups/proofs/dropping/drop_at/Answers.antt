use Rattle.std.proofs.Common.{◌≡◌, ap, subst, ◌∙◌}
use Rattle.std.proofs.lemmas.Option.{get_or_from_slice_get}
use Rattle.std.specs.Prelude.{slice_set}
use Rattle.groups.specs.Dropping.{IsGivenUp, cut_to}
use Rattle.groups.specs.GroupView.{key_of_next}
use Rattle.groups.proofs.dropping.drop_at.Goals as goal

pub returns-clause-components : goal.returns-clause-components
returns-clause-components g c = λ d at.
    let t = g.T.Turns.turn_of in
    let cs = c.args.components.now in
    let one = c.index-components-place in
    let same = get_or_from_slice_get cs c.args.place d one.result at in
    ap (slice_set cs c.args.place) (c.drop_one.ensures.component ∙ ap (cut_to t c.args.bound) same)

pub returns-clause-given : goal.returns-clause-given
returns-clause-given g c = λ d at.
    let one = c.index-components-place in
    let same = get_or_from_slice_get c.args.components.now c.args.place d one.result at in
    subst (λ x. IsGivenUp c.args.bound x c.drop_one.result) same c.drop_one.ensures.given

pub returns-clause-next : goal.returns-clause-next
returns-clause-next g c = λ d at.
    let t = g.T.Turns.turn_of in
    let one = c.index-components-place in
    let same = get_or_from_slice_get c.args.components.now c.args.place d one.result at in
    subst (λ x. key_of_next t (cut_to t c.args.bound x) ≡ key_of_next t x) same c.drop_one.ensures.next
