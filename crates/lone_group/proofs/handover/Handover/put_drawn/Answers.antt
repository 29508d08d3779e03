use Rattle.std.proofs.Common.{rules, ◌≡◌, List, [], ◌∷◌, ◌++◌, All, IfSome, Vec, Global, ap, sym, subst, ◌∙◌}
use Rattle.std.proofs.lemmas.List.Elements.{All-pop, All-push}
use Rattle.std.specs.Arc.{arc_value}
use Rattle.task_seed.specs.Setups.{system}
use Rattle.reference.specs.declared.agenda.Due.{Due}
use Rattle.lone_group.specs.declared.drawn.Drawn.{Drawn}
use Rattle.lone_group.specs.Drawn.{IsDrawn}
use Rattle.lone_group.specs.Lone.{Between}
use Rattle.lone_group.proofs.handover.Handover.put_drawn.Goals as goal
use Rattle.lone_group.proofs.handover.Handover.put_drawn.Goals.{in-Some, in-None}

pub invariant_of-self-2 : goal.invariant_of-self-2
invariant_of-self-2 g c =
    let i = c.self.invariant in
    let t = g.T.Turns.turn_of in
    let s = system t (arc_value c.self.inside.setup) in
    let drawn : Drawn = c.args.drawn in
    let is : IsDrawn s drawn = subst (λ (b : Between _). IsDrawn (system t b.setup) drawn) (sym c.self.view_is) c.requires.drawn in
    let items = c.push_back_reserved.ensures.items ∙ ap (λ (l : List Drawn). l ++ drawn ∷ []) c.reserve.ensures.items in
    let left = All-pop (λ (due : Vec Due Global). due.items ≡ []) c.self.inside.dues.items c.pop.new.self.items c.pop.result c.pop.ensures.items i.2 in
    (subst (All (IsDrawn s)) (sym items) (All-push (IsDrawn s) c.self.inside.drawn.items drawn i.0 is), i.1, left.0)

pub returns-clause-empty : goal.returns-clause-empty
returns-clause-empty g c =
    let left = All-pop (λ (due : Vec Due Global). due.items ≡ []) c.self.inside.dues.items c.pop.new.self.items c.pop.result c.pop.ensures.items c.self.invariant.2 in
    elim c.match-pop.branch [
      | in-Some w ↦ let empty = subst (λ o. IfSome o (λ (due : Vec Due Global). due.items ≡ [])) w.in-Some.is left.1 in search (rules, empty)
      | in-None w ↦ search rules
    ]
