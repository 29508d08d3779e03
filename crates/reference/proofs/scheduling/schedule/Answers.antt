use Rattle.task_seed.specs.Machines.{end_rank}
use Rattle.reference.proofs.scheduling.schedule.Goals as goal

pub returns-clause-all : goal.returns-clause-all
returns-clause-all g c =
    let turns = c.in_ok-turns.turns.items in
    record { all = c.in_ok-turns.ensures.turns; keys = c.in_ok-turns.ensures.keys; scheduled = c.turns_are_schedule.ensures.reference turns end_rank c.in_ok-turns.ensures.reference }
