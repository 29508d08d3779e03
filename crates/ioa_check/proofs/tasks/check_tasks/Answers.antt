use Rattle.std.proofs.Common.{rules, arith, ◌≡◌, ◌+◌, ◌∷◌, drop, map, string_bytes, ap, sym, ◌∙◌}
use Rattle.ioa_trees.specs.Views.{view_entry}
use Rattle.ioa_trees.specs.AutomatonRules.{task_faults, tasks_faults}
use Rattle.ioa_trees.specs.Faults.{keep}
use Rattle.ioa_trees.specs.Sizes.{row_size, task_size}
use Rattle.ioa_typing.specs.TermViews.{least_tree}
use Rattle.ioa_check.specs.Sets.{Adds}
use Rattle.ioa_check.specs.AutomatonViews.{used_names}
use Rattle.ioa_entries.specs.TaskNames.{task_names}
use Rattle.ioa_typing.proofs.Items.{drop_at}
use Rattle.ioa_check.proofs.Turns.{task_kept}
use Rattle.ioa_check.proofs.tasks.check_tasks.Goals as goal

pub loop-task-preserved : goal.loop-task-preserved
loop-task-preserved c =
    let l = c.loop-task in
    let es = map view_entry c.args.entries.now in
    let before = used_names l.used in
    let after = used_names c.check_task.new.used in
    let progress = c.check_task.new.progress in
    let t = map string_bytes c.task-item.result.items in
    let left = task_names (drop (l.task-index + 1) c.args.tasks.now) in
    let split : task_names (drop l.task-index c.args.tasks.now) ≡ t ∷ left = ap task_names (drop_at c.args.tasks.now l.task-index c.task-item.result c.task-item.is c.loop-task-test.true) in
    let at : l.progress.at + row_size task_size (t ∷ left) ≡ c.args.progress.now.at + row_size task_size (task_names c.args.tasks.now) = ap (λ r. l.progress.at + row_size task_size r) (sym split) ∙ l.invariant.at in
    let place : progress.at ≡ l.progress.at + task_size t = search rules in
    let noted : least_tree progress.least ≡ keep (least_tree l.progress.least) (task_faults es before (l.progress.at + 1) t) = search rules in
    let names : Adds after t before = search rules in
    record {
      at = omega (arith, at, place);
      faults = task_kept es before after l.progress.at progress.at t left (least_tree l.progress.least) (least_tree progress.least) noted names place
          ∙ ap (λ r. keep (least_tree l.progress.least) (tasks_faults es before l.progress.at r)) (sym split) ∙ l.invariant.faults;
    }
