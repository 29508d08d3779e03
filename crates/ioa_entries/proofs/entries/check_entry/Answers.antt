use Rattle.std.proofs.Common.{rules, arith, ◌≡◌, ◌+◌, map, option_map}
use Rattle.ioa_trees.specs.Views.{view_entry, view_transition}
use Rattle.ioa_trees.specs.EntryRules.{tuples}
use Rattle.ioa_typing.specs.KindViews.{capped}
use Rattle.ioa_typing.specs.NameViews.{names_tree}
use Rattle.ioa_typing.specs.TermViews.{least_tree}
use Rattle.ioa_entries.specs.TaskNames.{task_names}
use Rattle.ioa_entries.proofs.Rows.{clash_is, entry_noted, not_missing}
use Rattle.ioa_entries.proofs.entries.check_entry.Goals as goal

pub returns-clause-faults : goal.returns-clause-faults
returns-clause-faults c =
    let s = names_tree c.args.names.now in
    let e = view_entry c.args.entry.now in
    let at = c.args.progress.now.at in
    let many : c.in_ok-tuples.tuples ≡ option_map capped (tuples s 0 e.parameters) = search rules in
    entry_noted s (map view_entry c.args.before.now) (map view_transition c.args.transitions.now) (task_names c.args.tasks.now) at (at + 2 + 1) e
    _ _ _ _
    (least_tree c.args.progress.now.least) (least_tree c.note_if.new.self.least) (least_tree c.check_bracketed.new.progress.least) (least_tree c.note_if-2.new.self.least) (least_tree c.note_if-3.new.self.least) (least_tree c.note_if-4.new.self.least)
    c.note_if.ensures.least (search rules) c.note_if-2.ensures.least c.note_if-3.ensures.least c.note_if-4.ensures.least
    (omega arith)
    (clash_is _ e c.args.before.now c.clashes_before.ensures)
    (c.is_large.ensures s many)
    (not_missing _ e c.args.transitions.now c.has_transition.ensures)
    c.is_untasked.ensures
