use Rattle.std.proofs.Common.{◌==◌, ◌&&◌, ◌++◌, [], ◌∷◌, ap, cond, not, sym, ◌∙◌}
use Rattle.io_automata.specs.Automata.{component_at}
use Rattle.plans.specs.Plans.{composition}
use Rattle.senders.specs.Meeting.{may_give_any, may_send}
use Rattle.senders.proofs.Lists.{filter_range_more}
use Rattle.senders.proofs.senders.list_to.Goals as goal

pub loop-i-preserved : goal.loop-i-preserved
loop-i-preserved c =
    let i = c.loop-i.i in
    let j = c.args.j in
    let one = component_at (composition c.args.plan.now) i in
    let test = may_send (composition c.args.plan.now) j in
    let others = c.formals-others.ensures in
    let inputs = c.entries-inputs.ensures in
    c.in_ok-push_if.ensures ∙ ap (λ b. c.loop-i.list.items ++ cond b (i ∷ []) []) (c.may_send.ensures ∙ (λ k. not (j == i) && may_give_any one (sym others k) (sym inputs k)))
    ∙ ap (λ xs. xs ++ cond (test i) (i ∷ []) []) c.loop-i.invariant
    ∙ sym (filter_range_more test i)
