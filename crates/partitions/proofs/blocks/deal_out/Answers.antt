use Rattle.std.proofs.Common.{◌≡◌, ◌+◌, ◌/◌, ◌%◌, ◌++◌, ap, replicate, rules, subst, sym, ◌∙◌}
use Rattle.partitions.proofs.Dealt.{IsDealt, block_dealt, dealt_even, dealt_partition}
use Rattle.partitions.proofs.blocks.deal_out.Goals as goal

pub loop-group-preserved : goal.loop-group-preserved
loop-group-preserved c =
    let least = c.args.components / c.args.groups in
    let greater = c.args.components % c.args.groups in
    let dealt = c.loop-group.group_of.items in
    subst (IsDealt least greater (c.loop-group.group + 1))
    (sym (c.in_ok-add_block.ensures ∙ ap (λ n. dealt ++ replicate n c.loop-group.group) c.block_size.ensures))
    (block_dealt least greater c.loop-group.group dealt c.loop-group.invariant)

pub returns-clause-partition : goal.returns-clause-partition
returns-clause-partition c =
    let n = c.args.components in
    let k = c.args.groups in
    let all : c.loop-group.group ≡ k = search rules in
    dealt_partition n k c.loop-group.group_of.items c.requires.some c.requires.few (subst (λ j. IsDealt (n / k) (n % k) j c.loop-group.group_of.items) all c.loop-group.invariant)

pub returns-clause-even : goal.returns-clause-even
returns-clause-even c =
    let n = c.args.components in
    let k = c.args.groups in
    let all : c.loop-group.group ≡ k = search rules in
    dealt_even n k c.loop-group.group_of.items c.requires.some (subst (λ j. IsDealt (n / k) (n % k) j c.loop-group.group_of.items) all c.loop-group.invariant)
