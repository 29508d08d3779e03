use Rattle.std.proofs.Common.{arith, ◌≡◌, ◌+◌, ◌||◌, ◌∷◌, bytes_eq, drop, map, string_bytes, ap, sym, ◌∙◌}
use Rattle.std.specs.List.{list_any}
use Rattle.ioa_trees.specs.Views.{view_entry}
use Rattle.ioa_trees.specs.AutomatonRules.{task_faults}
use Rattle.ioa_trees.specs.Faults.{keep, where_wrong}
use Rattle.ioa_typing.specs.TermViews.{least_tree}
use Rattle.ioa_check.specs.AutomatonParts.{is_wrong_name}
use Rattle.ioa_check.specs.AutomatonViews.{used_names}
use Rattle.ioa_typing.proofs.Items.{drop_at}
use Rattle.ioa_check.proofs.Lists.{one_added}
use Rattle.ioa_check.proofs.Turns.{name_kept}
use Rattle.ioa_check.proofs.tasks.check_names.Goals as goal

pub loop-name-preserved : goal.loop-name-preserved
loop-name-preserved c =
    let l = c.loop-name in
    let es = map view_entry c.args.entries.now in
    let before = used_names l.used in
    let after = used_names c.check_name.new.used in
    let progress = c.check_name.new.progress in
    let q = string_bytes c.name-item.result in
    let left = map string_bytes (drop (l.name-index + 1) c.args.task.now) in
    let split : map string_bytes (drop l.name-index c.args.task.now) ≡ q ∷ left = ap (map string_bytes) (drop_at c.args.task.now l.name-index c.name-item.result c.name-item.is c.loop-name-test.true) in
    let place : progress.at ≡ l.progress.at + 1 = c.in_ok-check_name.ensures.at in
    let noted : least_tree progress.least ≡ keep (least_tree l.progress.least) (where_wrong (is_wrong_name es before q) (l.progress.at + 1) 16) = c.in_ok-check_name.ensures.faults in
    record {
      at = omega (arith, place, l.invariant.at);
      names = λ r. one_added q r left after before _ (c.in_ok-check_name.ensures.names r) (ap (λ xs. list_any (bytes_eq r) xs || list_any (bytes_eq r) before) (sym split) ∙ l.invariant.names r);
      faults = name_kept es before after (l.progress.at + 1) (progress.at + 1 + 1) q left (least_tree l.progress.least) (least_tree progress.least) noted c.in_ok-check_name.ensures.names (omega (arith, place))
          ∙ ap (λ xs. keep (least_tree l.progress.least) (task_faults es before (l.progress.at + 1) xs)) (sym split) ∙ l.invariant.faults;
    }
