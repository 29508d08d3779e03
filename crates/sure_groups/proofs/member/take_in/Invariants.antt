use Rattle.std.proofs.Common.{length}
use Rattle.event_keys.specs.Ranks.{rank}
use Rattle.task_seed.specs.Setups.{system}
use Rattle.sure_groups.specs.Members.{IsMember}
use Rattle.sure_groups.proofs.member.take_in.Given as goal

abbrev pub invariant-loop-input : goal.invariant-loop-input
invariant-loop-input g l = IsMember (system g.T.Turns.turn_of l.setup) l.hearing.groups.items l.hearing.heard.items (rank l.key) l.key.component l.member

abbrev pub decreases-loop-input : goal.decreases-loop-input
decreases-loop-input g l = length l.member.pending.items
