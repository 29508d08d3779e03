use Rattle.std.proofs.Common.{ap}
use Rattle.conditions.proofs.Opening.{products_met, together_met}
use Rattle.conditions.proofs.branches.meet.Goals as goal
use Rattle.conditions.proofs.branches.meet.Goals.{then-both+in_ok-branches, else-both+in_ok-branches-2}

pub returns-clause-hold : goal.returns-clause-hold
returns-clause-hold c =
    elim c.if-both.branch [
      | then-both+in_ok-branches w ↦ products_met c.if-both.branches.items w.in_ok-branches.branches.items c.args.first.items c.args.second.items w.as_slice.result.now w.as_slice-then-both.result.now c.args.both (ap (λ v. v.items) w.branches-is) w.if-both.true w.as_slice.ensures.value w.as_slice-then-both.ensures.value w.in_ok-branches.ensures
      | else-both+in_ok-branches-2 w ↦ together_met c.if-both.branches.items w.in_ok-branches-2.branches.items c.args.first.items c.args.second.items c.args.both (ap (λ v. v.items) w.branches-is) w.if-both.false w.in_ok-branches-2.ensures
    ]
