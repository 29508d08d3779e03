use Rattle.std.proofs.Common.{subst, arith}
use Rattle.event_keys.specs.Ranks.{rank_of_bound}
use Rattle.virtual_time.specs.Machine.{Lawful}
use Rattle.task_seed.specs.declared.setup.Setup.{Setup}
use Rattle.task_seed.specs.Machines.{machine, end_rank}
use Rattle.task_seed.specs.Setups.{plan_of, system}
use Rattle.schedules.specs.Schedules.{HasSchedules}
use Rattle.commands.proofs.Beginnings.{beginning}
use Rattle.commands.proofs.driving.committed_begins.Goals as goal

pub returns : goal.returns
returns g c =
    let w = c.args.world.now in
    let s = system g.T.Turns.turn_of w.setup in
    let m = machine s in
    let law : Lawful m = subst (λ (p : Setup g.row.T.Denot). Lawful (machine (system g.T.Turns.turn_of p))) c.setup.ensures c.machine_is_lawful.ensures.lawful in
    let schedules : HasSchedules (plan_of w.setup) s = subst (λ (p : Setup g.row.T.Denot). HasSchedules (plan_of p) (system g.T.Turns.turn_of p)) c.setup-2.ensures c.turns_are_schedule.ensures.reference in
    beginning s (plan_of w.setup) c.args.lines (rank_of_bound w.bound) w.committed c.committed_fits.ensures schedules law (c.reference_is_one.ensures.begins m) (c.reference_is_complete.ensures.exists m end_rank law (omega arith)) c.committed.ensures.reference
