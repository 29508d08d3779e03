use Rattle.std.proofs.Common.{arith}
use Rattle.ioa_check.proofs.Turns.{task_sized}
use Rattle.ioa_check.proofs.tasks.check_task.Goals as goal

pub check_names-requires : goal.check_names-requires
check_names-requires c = let sized = task_sized c.args.task.now in record { room = omega (arith, sized, c.requires.room) }

pub overflow_add-progress : goal.overflow_add-progress
overflow_add-progress c = let sized = task_sized c.args.task.now in omega (arith, sized, c.requires.room, c.in_ok-check_names.ensures.at, c.closing.ensures)

pub returns-clause-at : goal.returns-clause-at
returns-clause-at c = let sized = task_sized c.args.task.now in omega (arith, sized, c.in_ok-check_names.ensures.at, c.closing.ensures)
