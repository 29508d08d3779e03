use Rattle.std.proofs.Common.{◌++◌, ◌∷◌, [], List, ap, sym, subst, ◌∙◌, rules}
use Rattle.task_seed.specs.Setups.{system}
use Rattle.reference.specs.declared.agenda.Due.{Due}
use Rattle.reference.specs.Agendas.{IsDrawn}
use Rattle.lone_group.specs.Drawn.{AreNext, first_of}
use Rattle.lone_group.proofs.Drawing.{first_more, next_more}
use Rattle.lone_group.proofs.drawn.draw.Goals as goal

pub loop-preserved : goal.loop-preserved
loop-preserved g c =
    let t = g.T.Turns.turn_of in
    let first = c.args.agenda.now.setup in
    let s = system t first in
    let old = c.loop.agenda.next in
    let new = c.draw.new.self.next in
    let turn = c.in-Some.turn in
    let due = c.loop.due.items in
    let drawn_at = subst (λ p. IsDrawn (system t p) old c.in_ok-turn.field-0 new) c.loop.invariant.setup c.in_ok-turn.ensures.ok in
    let drawn = subst (λ o. IsDrawn s old o new) c.in-Some.is drawn_at in
    let items = c.push_reserved.ensures.items ∙ ap (λ (l : List Due). l ++ turn ∷ []) c.reserve.ensures.items in
    record {
      setup = c.draw.ensures.setup ∙ c.loop.invariant.setup;
      due = subst (λ l. AreNext s l new) (sym items) (next_more s due turn old new drawn.0 drawn.1 c.loop.invariant.due);
      from = c.loop.invariant.from ∙ sym (first_more due turn old new drawn.0) ∙ ap (λ l. first_of l new) (sym items);
      count = search rules;
    }
