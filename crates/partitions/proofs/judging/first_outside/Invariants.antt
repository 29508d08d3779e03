use Rattle.std.proofs.Common.{◌<◌, All, take}
use Rattle.partitions.proofs.judging.first_outside.Given as goal

abbrev pub invariant-loop-i : goal.invariant-loop-i
invariant-loop-i l = All (λ g. g < l.groups) (take l.i l.group_of)
