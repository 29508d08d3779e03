use Rattle.std.proofs.Common.{List, [], ◌∷◌, ◌++◌, All, ap, sym, subst, ◌∙◌}
use Rattle.std.proofs.lemmas.List.Elements.{All-push}
use Rattle.std.specs.Arc.{arc_value}
use Rattle.task_seed.specs.Setups.{system}
use Rattle.lone_group.specs.declared.batch.Batch.{Batch}
use Rattle.lone_group.specs.Lone.{Between, IsBatch}
use Rattle.lone_group.proofs.handover.Handover.put.Goals as goal

pub invariant_of-self-2 : goal.invariant_of-self-2
invariant_of-self-2 g c =
    let i = c.self.invariant in
    let t = g.T.Turns.turn_of in
    let s = system t (arc_value c.self.inside.setup) in
    let batch : Batch = c.hand_over.result in
    let is : IsBatch s batch = subst (λ p. IsBatch (system t p) batch) (c.requires.own ∙ sym (ap (λ (b : Between _). b.setup) c.self.view_is)) c.hand_over.ensures.batch in
    let items = c.push_back_reserved.ensures.items ∙ ap (λ (l : List Batch). l ++ batch ∷ []) c.reserve.ensures.items in
    (i.0, subst (All (IsBatch s)) (sym items) (All-push (IsBatch s) c.self.inside.batches.items batch i.1 is), i.2)

pub returns-clause-ok : goal.returns-clause-ok
returns-clause-ok g c =
    let batch : Batch = c.hand_over.result in
    let old : Between _ = record { setup = arc_value c.self.inside.setup; drawn = c.self.inside.drawn.items; batches = c.self.inside.batches.items } in
    let items = c.push_back_reserved.ensures.items ∙ ap (λ (l : List Batch). l ++ batch ∷ []) c.reserve.ensures.items in
    record {
      batch = batch;
      becomes = ap (λ (l : List Batch). record old { batches = l }) items ∙ ap (λ (b : Between _). record b { batches = b.batches ++ batch ∷ [] }) c.self.view_is;
      first = c.hand_over.ensures.first;
      turns = c.hand_over.ensures.turns;
    }
