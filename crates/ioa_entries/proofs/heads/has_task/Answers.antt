use Rattle.std.proofs.Common.{◌∙◌}
use Rattle.ioa_entries.proofs.Scans.{task_is}
use Rattle.ioa_entries.proofs.heads.has_task.Goals as goal

pub returns : goal.returns
returns c = c.some_task.ensures ∙ task_is c.args.tasks.now c.args.name.now
