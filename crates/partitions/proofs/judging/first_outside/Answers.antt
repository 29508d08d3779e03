use Rattle.std.proofs.Common.{◌<◌, ◌≤◌, All, length, rules, subst, take_all}
use Rattle.std.proofs.lemmas.List.Elements.{All-more}
use Rattle.partitions.proofs.judging.first_outside.Goals as goal

pub loop-i-preserved : goal.loop-i-preserved
loop-i-preserved c = All-more (λ g. g < c.args.groups) c.args.group_of.now c.loop-i.i 0 (search rules) c.loop-i.invariant (search rules)

pub returns-clause-none : goal.returns-clause-none
returns-clause-none c =
    let long : length c.args.group_of.now ≤ c.loop-i.i = search rules in
    subst (All (λ g. g < c.args.groups)) (take_all c.loop-i.i c.args.group_of.now long) c.loop-i.invariant
