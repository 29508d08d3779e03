use Rattle.std.proofs.Common.{[], ◌∷◌, ◌++◌, ◌+◌, map, length, length-append, sym, ap, ◌∙◌, arith}
use Rattle.std.proofs.lemmas.List.FromFn.{map-range_with_len_more}
use Rattle.std.specs.Prelude.{replicate}
use Rattle.std.specs.List.{range_with_len}
use Rattle.task_seed.specs.Setups.{system}
use Rattle.group_exchange.specs.Start.{start_passage}
use Rattle.group_exchange.proofs.Repeated.{same_more}
use Rattle.group_exchange.proofs.start.start_counted.Goals as goal

pub loop-i-preserved : goal.loop-i-preserved
loop-i-preserved g c =
    let s = system g.T.Turns.turn_of c.args.setup.now in
    let i = c.loop-i.i in
    record {
      passages = c.in_ok-push.ensures.items ∙ ap (λ l. l ++ c.start_passage.result ∷ []) c.loop-i.invariant.passages ∙ ap (λ x. map (start_passage s) (range_with_len 0 i) ++ x ∷ []) c.start_passage.ensures
          ∙ sym (map-range_with_len_more (start_passage s) 0 i i (omega arith));
      walks = ap length c.in_ok-push-2.ensures.items ∙ length-append c.loop-i.walks.items _ ∙ ap (λ n. n + 1) c.loop-i.invariant.walks;
      held = c.in_ok-push-3.ensures.items ∙ ap (λ l. l ++ c.empty.result ∷ []) c.loop-i.invariant.held ∙ ap (λ x. replicate i [] ++ x ∷ []) c.empty.ensures ∙ same_more [] i;
    }
