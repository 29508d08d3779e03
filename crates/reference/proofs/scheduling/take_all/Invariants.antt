use Rattle.std.proofs.Common.{◌≡◌, ◌-◌, length}
use Rattle.task_seed.specs.Setups.{system, plan_of}
use Rattle.task_seed.specs.Machines.{machine, end_rank}
use Rattle.task_seed.specs.Taken.{turns_of}
use Rattle.virtual_time.specs.Reference.{reference_below}
use Rattle.schedules.specs.Schedules.{KeysFit}
use Rattle.reference.specs.Clocks.{AreClocks}
use Rattle.plans.specs.Plans.{composition}
use Rattle.reference.specs.Memos.{AreMemos}
use Rattle.reference.specs.Standing.{taken_at, IsBeforeLeast}
use Rattle.reference.proofs.scheduling.take_all.Given as goal

abbrev pub invariant-loop-turns : goal.invariant-loop-turns
invariant-loop-turns g l = record {
  stands : IsBeforeLeast (system g.T.Turns.turn_of l.setup) l.frontier.places.items l.frontier.numbers.items l.frontier.states.items;
  clocks : AreClocks g.T.Turns.turn_of l.setup l.frontier.numbers.items l.frontier.clocks.clocks.items;
  memos : AreMemos (composition (plan_of l.setup)) l.frontier.states.items l.frontier.memos.items;
  taken : turns_of l.turns.items ≡ taken_at (system g.T.Turns.turn_of l.setup) l.frontier.places.items l.frontier.numbers.items;
  keys : KeysFit l.turns.items;
}

abbrev pub decreases-loop-turns : goal.decreases-loop-turns
decreases-loop-turns g l = length (reference_below (machine (system g.T.Turns.turn_of l.setup)) end_rank) - length (taken_at (system g.T.Turns.turn_of l.setup) l.frontier.places.items l.frontier.numbers.items)
