use Rattle.std.proofs.Common.{rules, map, take, ap, ◌∙◌}
use Rattle.ioa_trees.specs.Views.{view_entry, view_transition}
use Rattle.ioa_trees.specs.EntryRules.{with_parameters}
use Rattle.ioa_typing.specs.NameViews.{names_tree}
use Rattle.ioa_typing.specs.TermViews.{least_tree}
use Rattle.ioa_entries.proofs.Rows.{again_is, take_parameters, transition_noted}
use Rattle.ioa_entries.proofs.transitions.check_transition.Goals as goal

pub returns-clause-names : goal.returns-clause-names
returns-clause-names c =
    let s = names_tree c.args.names.now in
    let ps = (view_transition c.args.transition.now).entry.parameters in
    c.truncate.ensures ∙ ap (λ x. take c.len-len.result x) c.in_ok-meant.ensures.names ∙ ap (λ k. take k (with_parameters s 0 ps)) c.len-len.ensures ∙ take_parameters s 0 ps

pub returns-clause-faults : goal.returns-clause-faults
returns-clause-faults c =
    let s = names_tree c.args.names.now in
    let t = view_transition c.args.transition.now in
    transition_noted (with_parameters s 0 t.entry.parameters) (map view_entry c.args.entries.now) (map view_transition c.args.before.now) c.args.progress.now.at t _
    (least_tree c.args.progress.now.least) (least_tree c.note_head.new.progress.least) (least_tree c.note_if.new.self.least) (least_tree c.check_inside.new.progress.least)
    c.note_head.ensures.least c.note_if.ensures.least (search rules)
    (again_is _ t.entry c.args.before.now c.has_transition.ensures)
