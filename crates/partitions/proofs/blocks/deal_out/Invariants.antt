use Rattle.partitions.proofs.Dealt.{IsDealt}
use Rattle.partitions.proofs.blocks.deal_out.Given as goal

abbrev pub invariant-loop-group : goal.invariant-loop-group
invariant-loop-group l = IsDealt l.least l.greater l.group l.group_of.items
