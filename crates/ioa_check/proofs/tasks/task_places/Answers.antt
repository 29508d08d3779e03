use Rattle.std.proofs.Common.{rules, ◌≡◌, ℕ, ◌+◌, ◌∷◌, ◌++◌, List, Vec, drop, map, string_bytes, ap, sym, ◌∙◌}
use Rattle.std.specs.Global.{Global}
use Rattle.ioa_trees.specs.Views.{view_transition}
use Rattle.ioa_trees.specs.AutomatonRules.{place_of}
use Rattle.ioa_check.specs.AutomatonViews.{place_lists}
use Rattle.ioa_entries.specs.TaskNames.{task_names}
use Rattle.ioa_typing.proofs.Items.{drop_at, push_step}
use Rattle.ioa_check.proofs.tasks.task_places.Goals as goal

pub loop-task-preserved : goal.loop-task-preserved
loop-task-preserved c =
    let l = c.loop-task in
    let f = λ (t : List (List ℕ)). map (λ q. place_of q 0 (map view_transition c.args.transitions.now)) t in
    let items = λ (v : Vec ℕ Global). v.items in
    let t = map string_bytes c.task-item.result.items in
    let left = task_names (drop (l.task-index + 1) c.args.tasks.now) in
    let split : task_names (drop l.task-index c.args.tasks.now) ≡ t ∷ left = ap task_names (drop_at c.args.tasks.now l.task-index c.task-item.result c.task-item.is c.loop-task-test.true) in
    let one : c.in_ok-one.one.items ≡ f t = search rules in
    push_step items l.places.items c.push.new.self.items c.in_ok-one.one (f t) (map f left) _ c.in_ok-push.ensures.items one (ap (λ xs. place_lists l.places.items ++ map f xs) (sym split) ∙ l.invariant)
