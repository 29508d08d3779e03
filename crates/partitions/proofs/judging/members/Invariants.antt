use Rattle.std.proofs.Common.{◌≡◌, ◌==◌, filter, get_or}
use Rattle.std.specs.List.{range_with_len}
use Rattle.partitions.proofs.judging.members.Given as goal

abbrev pub invariant-loop-i : goal.invariant-loop-i
invariant-loop-i l = l.members.items ≡ filter (λ i. get_or l.group_of i 0 == l.fn.group) (range_with_len 0 l.i)
