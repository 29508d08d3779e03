use Rattle.std.proofs.Common.{◌++◌, ◌∷◌, [], ℕ, List, map, ap, ◌∙◌, sym, arith}
use Rattle.std.specs.List.{range_with_len}
use Rattle.std.proofs.lemmas.List.FromFn.{map-range_with_len_more}
use Rattle.undo_records.specs.States.{States}
use Rattle.plans.specs.Plans.{composition}
use Rattle.io_automata.specs.Steps.{start_of}
use Rattle.reference.specs.Taking.{plain}
use Rattle.reference.proofs.frontier.start_states.Goals as goal

pub loop-i-preserved : goal.loop-i-preserved
loop-i-preserved c =
    let f = λ (i : ℕ). plain (start_of (composition c.args.plan.now) i) in
    c.in_ok-push.ensures.items
    ∙ ap (λ (l : List States). l ++ c.in_ok-new.field-0 ∷ []) c.loop-i.invariant
    ∙ ap (λ b. map f (range_with_len 0 c.loop-i.i) ++ b ∷ []) (c.in_ok-new.ensures ∙ ap plain c.in_ok-state.ensures)
    ∙ sym (map-range_with_len_more f 0 c.loop-i.i c.loop-i.i (omega arith))
