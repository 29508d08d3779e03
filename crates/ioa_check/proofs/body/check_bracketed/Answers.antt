use Rattle.std.proofs.Common.{◌≡◌, ◌+◌, map, ap, ◌∙◌}
use Rattle.ioa_trees.specs.Views.{view_declared}
use Rattle.ioa_trees.specs.AutomatonRules.{formals_faults}
use Rattle.ioa_trees.specs.Faults.{keep}
use Rattle.ioa_typing.specs.NameViews.{names_tree}
use Rattle.ioa_typing.specs.TermViews.{least_tree}
use Rattle.ioa_check.specs.Bodies.{word}
use Rattle.ioa_check.proofs.Bodies.{formals_place, word_map}
use Rattle.ioa_check.proofs.body.check_bracketed.Goals as goal

pub returns-clause-faults : goal.returns-clause-faults
returns-clause-faults c =
    let s = names_tree c.args.names.now in
    let ds = map view_declared c.args.formals.now in
    let at = c.args.progress.now.at in
    let o = least_tree c.args.progress.now.least in
    let is : c.word-bracket.result ≡ word ds = c.word-bracket.ensures ∙ word_map view_declared c.args.formals.now in
    c.in_ok-kinds.ensures.faults ∙ ap (λ n. keep o (formals_faults s 0 (at + n) ds)) is ∙ ap (keep o) (formals_place s at ds)
