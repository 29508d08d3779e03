use Rattle.std.proofs.Common.{rules, ◌≡◌, ◌+◌, ◌||◌, ◌++◌, bytes_eq, drop, map, ap, sym, ◌∙◌}
use Rattle.std.specs.List.{list_any}
use Rattle.ioa_trees.specs.Views.{view_entry}
use Rattle.ioa_trees.specs.AutomatonRules.{entry_names, typed_names}
use Rattle.ioa_check.specs.Sets.{Adds}
use Rattle.ioa_check.specs.AutomatonViews.{used_names}
use Rattle.ioa_typing.proofs.Items.{drop_at}
use Rattle.ioa_check.proofs.Lists.{some_added}
use Rattle.ioa_check.proofs.locals.use_parameters.Goals as goal

pub loop-entry-preserved : goal.loop-entry-preserved
loop-entry-preserved c =
    let l = c.loop-entry in
    let before = used_names l.used in
    let after = used_names c.use_typed.new.used in
    let x = c.entry-item.result in
    let others = drop (l.entry-index + 1) c.args.entries.now in
    let split : entry_names (map view_entry (drop l.entry-index c.args.entries.now)) ≡ typed_names (view_entry x).parameters ++ entry_names (map view_entry others) = ap (λ xs. entry_names (map view_entry xs)) (drop_at c.args.entries.now l.entry-index x c.entry-item.is c.loop-entry-test.true) in
    let adds : Adds after (typed_names (view_entry x).parameters) before = search rules in
    λ r. some_added (typed_names (view_entry x).parameters) r (entry_names (map view_entry others)) after before _ (adds r) (ap (λ xs. list_any (bytes_eq r) xs || list_any (bytes_eq r) before) (sym split) ∙ l.invariant r)
