use Rattle.std.proofs.Common.{◌++◌, [], ◌∷◌, arith, ap, map, sym, ◌∙◌, List, ℕ}
use Rattle.std.specs.List.{range_with_len}
use Rattle.std.proofs.lemmas.List.{map-append}
use Rattle.std.proofs.lemmas.List.FromFn.{map-range_with_len_more}
use Rattle.io_automata.specs.Automata.{items_in}
use Rattle.plans.specs.Plans.{composition}
use Rattle.senders.specs.Meeting.{senders_of}
use Rattle.senders.proofs.senders.lists_of_plan.Goals as goal

pub loop-j-preserved : goal.loop-j-preserved
loop-j-preserved c =
    let j = c.loop-j.j in
    let list = c.in_ok-list.list in
    ap (map items_in) c.in_ok-push.ensures.items ∙ map-append items_in c.loop-j.lists.items (list ∷ [])
    ∙ ap (λ ls. ls ++ list.items ∷ []) c.loop-j.invariant
    ∙ ap (λ (l : List ℕ). map (senders_of (composition c.args.plan.now)) (range_with_len 0 j) ++ l ∷ []) c.in_ok-list.ensures
    ∙ sym (map-range_with_len_more (senders_of (composition c.args.plan.now)) 0 j j (omega arith))
