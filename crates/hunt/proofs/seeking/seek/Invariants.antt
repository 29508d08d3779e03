use Rattle.std.proofs.Common.{◌≡◌, ◌-◌, length, false}
use Rattle.std.specs.List.{list_any}
use Rattle.virtual_time.specs.Reference.{reference_below}
use Rattle.task_seed.specs.Machines.{machine, end_rank}
use Rattle.task_seed.specs.Setups.{system}
use Rattle.task_seed.specs.Taken.{turns_of}
use Rattle.schedules.specs.Schedules.{KeysFit}
use Rattle.reference.specs.Views.{IsComplete}
use Rattle.hunt.specs.Sightings.{saw}
use Rattle.hunt.proofs.seeking.seek.Given as goal

abbrev pub invariant-loop-turns : goal.invariant-loop-turns
invariant-loop-turns g l =
    let setup = l.initial.reference.setup in
    record {
      same : l.reference.setup ≡ setup;
      complete : IsComplete (machine (system g.T.Turns.turn_of setup)) l.reference.taken;
      are : turns_of l.turns.items ≡ l.reference.taken;
      keys : KeysFit l.turns.items;
      unseen : list_any (saw l.wanted) l.turns.items ≡ false;
    }

abbrev pub decreases-loop-turns : goal.decreases-loop-turns
decreases-loop-turns g l = length (reference_below (machine (system g.T.Turns.turn_of l.initial.reference.setup)) end_rank) - length l.reference.taken
