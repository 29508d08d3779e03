use Rattle.std.proofs.Common.{◌≡◌, ◌+◌, ◌<◌, ◌∷◌, List, ap, drop, length, sym, subst, ◌∙◌}
use Rattle.std.proofs.lemmas.List.{drop_more}
use Rattle.reference.specs.declared.agenda.Due.{Due}
use Rattle.task_seed.specs.Machines.{machine}
use Rattle.task_seed.specs.Setups.{system}
use Rattle.lone_group.specs.Drawn.{first_of}
use Rattle.lone_group.specs.Held.{IsHeld}
use Rattle.lone_group.specs.Taken.{IsIn}
use Rattle.reference.specs.Agendas.{Coming}
use Rattle.lone_group.specs.Lone.{Alone}
use Rattle.lone_group.proofs.Stepping.{held_next, left_some}
use Rattle.lone_group.proofs.lone.LoneGroup.step.Goals as goal

pub invariant_of-self-2 : goal.invariant_of-self-2
invariant_of-self-2 g c =
    let t = g.T.Turns.turn_of in
    let l = c.self.inside in
    let s = system t l.standing.setup in
    let due = c.index-due.result.now in
    let items = l.due.items in
    let later = drop (l.at + 1) items in
    let next = c.next_of-next.result in
    let news = c.take_into.new.slots.items in
    let more : l.at < length items = left_some items l.at (λ none. c.requires (sym (ap (λ (a : Alone _). a.due) c.self.view_is) ∙ none)) in
    let split : drop l.at items ≡ due ∷ later = drop_more items l.at due more ∙ ap (λ x. x ∷ later) (sym c.index-due.ensures) in
    let next_is : next ≡ first_of later l.until = c.next_of-next.ensures ∙ ap (λ (ds : List Due). first_of (drop (l.at + 1) ds) l.until) c.deref.ensures.value in
    let held = subst (λ ds. IsHeld s l.standing.next ds l.until l.first l.used l.slots.items) split c.self.invariant in
    let is = subst (λ k. IsIn (machine s) due.key k l.used l.slots.items news) next_is c.in_ok-take_into.ensures.turn in
    let stands = held_next s due later l.standing.next l.until l.first l.used l.slots.items news held is in
    subst (λ (x : Coming _). IsHeld (system t x.setup) x.next later l.until l.first (l.used + 1) news) (sym c.in_ok-take_into.ensures.taken)
    (subst (λ k. IsHeld s k later l.until l.first (l.used + 1) news) (sym next_is) stands)
