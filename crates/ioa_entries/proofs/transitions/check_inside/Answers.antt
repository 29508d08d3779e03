use Rattle.std.proofs.Common.{rules, arith, ◌≡◌, ◌+◌, ap, ◌∙◌}
use Rattle.ioa_trees.specs.Views.{view_transition}
use Rattle.ioa_trees.specs.EffectRules.{statements_faults}
use Rattle.ioa_trees.specs.EntryRules.{pre_faults, with_parameters}
use Rattle.ioa_trees.specs.Faults.{keep}
use Rattle.ioa_trees.specs.Sizes.{entry_size, pre_size}
use Rattle.ioa_typing.specs.NameViews.{names_tree}
use Rattle.ioa_typing.specs.TermViews.{least_tree}
use Rattle.ioa_entries.proofs.Rows.{inside_noted}
use Rattle.ioa_entries.proofs.transitions.check_inside.Goals as goal

pub returns-clause-faults : goal.returns-clause-faults
returns-clause-faults c =
    let t = view_transition c.args.transition.now in
    let s = with_parameters (names_tree c.args.names.now) 0 t.entry.parameters in
    let at = c.args.progress.now.at in
    let here = c.declare_bracketed.new.progress in
    let after = c.check_pre.new.progress in
    let scope : names_tree c.declare_bracketed.new.names ≡ s = search rules in
    let least : here.least ≡ c.args.progress.now.least = search rules in
    let first : least_tree after.least ≡ keep (least_tree here.least) (pre_faults (names_tree c.declare_bracketed.new.names) t.entry.kind here.at t.pre) = search rules in
    let second : least_tree c.check_eff.new.progress.least ≡ keep (least_tree after.least) (statements_faults (names_tree c.declare_bracketed.new.names) 0 (after.at + 1) t.eff) = search rules in
    let place : here.at ≡ at + entry_size t.entry = search (rules, arith) in
    let next : after.at ≡ here.at + pre_size t.pre = search rules in
    inside_noted s at here.at after.at t (least_tree c.args.progress.now.least) (least_tree after.least) (least_tree c.check_eff.new.progress.least)
    (first ∙ ap (λ r. keep (least_tree here.least) (pre_faults r t.entry.kind here.at t.pre)) scope ∙ ap (λ x. keep (least_tree x) (pre_faults s t.entry.kind here.at t.pre)) least)
    (second ∙ ap (λ r. keep (least_tree after.least) (statements_faults r 0 (after.at + 1) t.eff)) scope)
    place next
