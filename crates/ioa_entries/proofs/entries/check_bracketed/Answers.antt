use Rattle.std.proofs.Common.{map, take, ap, ◌∙◌}
use Rattle.ioa_trees.specs.Views.{view_parameter}
use Rattle.ioa_trees.specs.EntryRules.{with_parameters}
use Rattle.ioa_typing.specs.NameViews.{names_tree}
use Rattle.ioa_entries.proofs.Rows.{take_parameters}
use Rattle.ioa_entries.proofs.entries.check_bracketed.Goals as goal

pub returns-clause-names : goal.returns-clause-names
returns-clause-names c =
    let s = names_tree c.args.names.now in
    let ps = map view_parameter c.args.parameters.now in
    c.truncate.ensures ∙ ap (λ x. take c.len-len.result x) c.in_ok-tuples.ensures.names ∙ ap (λ k. take k (with_parameters s 0 ps)) c.len-len.ensures ∙ take_parameters s 0 ps
