use Rattle.std.proofs.Common.{◌≡◌, ◌++◌, [], ◌∷◌, ap, rules, subst, sym, ◌∙◌}
use Rattle.std.specs.List.{range_with_len}
use Rattle.partitions.specs.Partitions.{IsPartition}
use Rattle.partitions.proofs.Numbers.{numbers_partition, range_more}
use Rattle.partitions.proofs.judging.numbers.Goals as goal

pub loop-i-preserved : goal.loop-i-preserved
loop-i-preserved c = c.in_ok-push.ensures.items ∙ ap (λ xs. xs ++ c.loop-i.i ∷ []) c.loop-i.invariant ∙ sym (range_more c.loop-i.i)

pub returns-clause-partition : goal.returns-clause-partition
returns-clause-partition c =
    let n = c.args.components in
    let all : c.loop-i.i ≡ n = search rules in
    subst (IsPartition n n) (sym (c.loop-i.invariant ∙ ap (range_with_len 0) all)) (numbers_partition n)
