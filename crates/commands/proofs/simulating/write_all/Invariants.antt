use Rattle.std.proofs.Common.{◌≡◌, ◌-◌, length}
use Rattle.virtual_time.specs.Reference.{reference_below}
use Rattle.task_seed.specs.Machines.{machine, end_rank}
use Rattle.task_seed.specs.Setups.{plan_of, system}
use Rattle.reference.specs.Views.{IsComplete}
use Rattle.commands.proofs.Streaming.{Sofar}
use Rattle.commands.proofs.simulating.write_all.Given as goal

abbrev pub invariant-loop-found : goal.invariant-loop-found
invariant-loop-found g l =
    let setup = l.initial.reference.setup in
    record {
      same : l.reference.setup ≡ setup;
      complete : IsComplete (machine (system g.T.Turns.turn_of setup)) l.reference.taken;
      sofar : Sofar g.W.Write.contents (plan_of setup) l.lines l.initial.out l.out l.before l.reference.taken l.written;
    }

abbrev pub decreases-loop-found : goal.decreases-loop-found
decreases-loop-found g l = length (reference_below (machine (system g.T.Turns.turn_of l.initial.reference.setup)) end_rank) - length l.reference.taken
