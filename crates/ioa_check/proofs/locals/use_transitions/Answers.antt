use Rattle.std.proofs.Common.{rules, ◌≡◌, ◌+◌, ◌||◌, ◌++◌, bytes_eq, drop, map, ap, sym, ◌∙◌}
use Rattle.std.specs.List.{list_any}
use Rattle.ioa_trees.specs.Views.{view_transition}
use Rattle.ioa_trees.specs.AutomatonRules.{all_loops, all_of}
use Rattle.ioa_check.specs.Sets.{Adds}
use Rattle.ioa_check.specs.AutomatonViews.{used_names}
use Rattle.ioa_typing.proofs.Items.{drop_at}
use Rattle.ioa_check.proofs.Lists.{some_added}
use Rattle.ioa_check.proofs.locals.use_transitions.Goals as goal

pub loop-transition-preserved : goal.loop-transition-preserved
loop-transition-preserved c =
    let l = c.loop-transition in
    let before = used_names l.used in
    let after = used_names c.use_loops.new.used in
    let x = c.transition-item.result in
    let others = drop (l.transition-index + 1) c.args.transitions.now in
    let split : all_of (λ t. all_loops t.eff) (map view_transition (drop l.transition-index c.args.transitions.now)) ≡ all_loops (view_transition x).eff ++ all_of (λ t. all_loops t.eff) (map view_transition others) = ap (λ xs. all_of (λ t. all_loops t.eff) (map view_transition xs)) (drop_at c.args.transitions.now l.transition-index x c.transition-item.is c.loop-transition-test.true) in
    let adds : Adds after (all_loops (view_transition x).eff) before = search rules in
    λ r. some_added (all_loops (view_transition x).eff) r (all_of (λ t. all_loops t.eff) (map view_transition others)) after before _ (adds r) (ap (λ xs. list_any (bytes_eq r) xs || list_any (bytes_eq r) before) (sym split) ∙ l.invariant r)
