use Rattle.std.proofs.Common.{◌≡◌, length, take}
use Rattle.event_keys.specs.Ranks.{rank}
use Rattle.task_seed.specs.Setups.{system}
use Rattle.sure_groups.specs.Passing.{IsPassedOn}
use Rattle.sure_groups.proofs.passing.pass.Given as goal

abbrev pub invariant-loop-at : goal.invariant-loop-at
invariant-loop-at g l = record {
  passed : IsPassedOn (system g.T.Turns.turn_of l.setup) l.hearing.groups.items l.hearing.heard.items l.hearing.me (rank l.slot.key) l.slot.key.component (take l.at l.among) l.initial.members l.members l.bags;
  many : length l.members ≡ length l.initial.members;
  count : length l.bags ≡ length l.initial.bags;
}
