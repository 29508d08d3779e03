use Rattle.std.proofs.Common.{rules, arith, ◌≡◌, ◌+◌, ◌∷◌, drop, map, take, ap, sym, ◌∙◌}
use Rattle.std.specs.Prelude.{reverse}
use Rattle.ioa_trees.specs.Views.{view_entry, view_transition}
use Rattle.ioa_trees.specs.EntryRules.{entries_faults, entry_faults}
use Rattle.ioa_trees.specs.Faults.{keep}
use Rattle.ioa_trees.specs.Sizes.{entry_size, row_size}
use Rattle.ioa_typing.specs.NameViews.{names_tree}
use Rattle.ioa_typing.specs.TermViews.{least_tree}
use Rattle.ioa_entries.specs.TaskNames.{task_names}
use Rattle.ioa_typing.proofs.Items.{drop_at}
use Rattle.ioa_entries.proofs.Rows.{before_reversed, entry_kept, reverse_next}
use Rattle.ioa_entries.proofs.entries.check_entries.Goals as goal

pub loop-place-preserved : goal.loop-place-preserved
loop-place-preserved c =
    let s = names_tree c.args.names.now in
    let l = c.loop-place in
    let e = view_entry c.index-entries-place.result in
    let ts = map view_transition c.args.transitions.now in
    let tasks = task_names c.args.tasks.now in
    let passed = map view_entry (reverse (take l.place c.args.entries.now)) in
    let left = map view_entry (drop (l.place + 1) c.args.entries.now) in
    let split : map view_entry (drop l.place c.args.entries.now) ≡ e ∷ left = ap (map view_entry) (drop_at c.args.entries.now l.place c.index-entries-place.result c.index-entries-place.is c.loop-place-test.true) in
    let at : l.progress.at + row_size entry_size (e ∷ left) ≡ c.args.progress.now.at + row_size entry_size (map view_entry c.args.entries.now) = ap (λ r. l.progress.at + row_size entry_size r) (sym split) ∙ l.invariant.at in
    let after : c.check_entry.new.progress.at ≡ l.progress.at + entry_size e = c.in_ok-check_entry.ensures.at in
    let next : map view_entry (reverse (take (l.place + 1) c.args.entries.now)) ≡ e ∷ passed = ap (map view_entry) (reverse_next c.args.entries.now l.place c.index-entries-place.result c.index-entries-place.is c.loop-place-test.true) in
    let told : least_tree c.check_entry.new.progress.least ≡ keep (least_tree l.progress.least) (entry_faults s (map view_entry (take l.place c.args.entries.now)) ts tasks l.progress.at e) = search rules in
    let noted = told ∙ ap (keep (least_tree l.progress.least)) (before_reversed s view_entry (take l.place c.args.entries.now) ts tasks l.progress.at e) in
    record {
      at = omega (arith, at, after);
      names = c.in_ok-check_entry.ensures.names ∙ l.invariant.names;
      faults = ap (λ b. keep (least_tree c.check_entry.new.progress.least) (entries_faults s b ts tasks c.check_entry.new.progress.at left)) next
          ∙ entry_kept s passed ts tasks l.progress.at c.check_entry.new.progress.at e left (least_tree l.progress.least) (least_tree c.check_entry.new.progress.least) noted after
          ∙ ap (λ r. keep (least_tree l.progress.least) (entries_faults s passed ts tasks l.progress.at r)) (sym split)
          ∙ l.invariant.faults;
    }
