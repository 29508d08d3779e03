use Rattle.std.proofs.Common.{◌==◌, ◌++◌, [], ◌∷◌, ap, cond, get_or, sym, ◌∙◌}
use Rattle.partitions.proofs.Numbers.{filter_range_more}
use Rattle.partitions.proofs.judging.members.Goals as goal

pub loop-i-preserved : goal.loop-i-preserved
loop-i-preserved c =
    c.in_ok-push_if.ensures ∙ ap (λ b. c.loop-i.members.items ++ cond b (c.loop-i.i ∷ []) []) c.is_in.ensures
    ∙ ap (λ xs. xs ++ cond (get_or c.args.group_of.now c.loop-i.i 0 == c.args.group) (c.loop-i.i ∷ []) []) c.loop-i.invariant
    ∙ sym (filter_range_more (λ i. get_or c.args.group_of.now i 0 == c.args.group) c.loop-i.i)
