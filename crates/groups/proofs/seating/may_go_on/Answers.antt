use Rattle.std.proofs.Common.{ap, sym, ◌∙◌}
use Rattle.std.proofs.lemmas.Option.{get_or_from_slice_get}
use Rattle.rollback.specs.ComponentView.{ComponentView}
use Rattle.rollback.specs.Room.{has_room}
use Rattle.rollback.specs.Stepped.{next_entry}
use Rattle.groups.specs.Windows.{lets_through}
use Rattle.groups.proofs.seating.may_go_on.Goals as goal

pub returns-in-Some : goal.returns-in-Some
returns-in-Some g c = λ d at.
    let t = g.T.Turns.turn_of in
    let one = c.index-components-place in
    c.has_room.ensures ∙ ap (λ (x : ComponentView _). has_room c.in-Some.window.turns x.history.done (next_entry t x)) (one.is ∙ get_or_from_slice_get c.args.components.now c.args.place d one.result at) ∙ ap (λ w. lets_through w d.history.done (next_entry t d)) (sym c.in-Some.is)
