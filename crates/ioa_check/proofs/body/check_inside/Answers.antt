use Rattle.std.proofs.Common.{take, ap, ◌∙◌}
use Rattle.ioa_trees.specs.Views.{view_automaton}
use Rattle.ioa_trees.specs.AutomatonRules.{around}
use Rattle.ioa_typing.specs.NameViews.{names_tree}
use Rattle.ioa_check.proofs.Bodies.{take_around}
use Rattle.ioa_check.proofs.body.check_inside.Goals as goal

pub returns-clause-names : goal.returns-clause-names
returns-clause-names c =
    let s = names_tree c.args.names.now in
    let a = view_automaton c.args.automaton.now in
    c.truncate.ensures ∙ ap (λ x. take c.len-len.result x) c.in_ok-meant.ensures.names ∙ ap (λ k. take k (around s a)) c.len-len.ensures ∙ take_around s a
