use Rattle.std.proofs.Common.{rules, arith, ◌≡◌, ◌+◌, ◌++◌, length, map, not, nat_eq}
use Rattle.std.proofs.lemmas.List.{length-map}
use Rattle.ioa_trees.specs.Views.{view}
use Rattle.ioa_trees.specs.Faults.{keep, where_wrong}
use Rattle.ioa_trees.specs.SourceRules.{arguments_faults, misfit_arguments}
use Rattle.ioa_typing.specs.KindViews.{option_tree}
use Rattle.ioa_typing.specs.NameViews.{names_tree}
use Rattle.ioa_typing.specs.TermViews.{least_tree}
use Rattle.ioa_check.proofs.Fitting.{counted_noted}
use Rattle.ioa_check.proofs.arguments.check_counted.Goals as goal

pub returns-clause-faults : goal.returns-clause-faults
returns-clause-faults c =
    let s = names_tree c.args.names.now in
    let ks = map option_tree c.args.formals.now in
    let ts = map view c.args.arguments.now in
    let at = c.args.progress.now.at in
    let n = length c.args.formals.now in
    let m = length c.args.arguments.now in
    let place = c.note_if.new.self.at + 1 + 1 in
    let first : least_tree c.note_if.new.self.least ≡ keep (least_tree c.args.progress.now.least) (where_wrong (not (nat_eq n m)) at 12) = search rules in
    let second : least_tree c.check_bracketed.new.progress.least ≡ keep (least_tree c.note_if.new.self.least) (arguments_faults s place ts ++ misfit_arguments s ks place ts) = search rules in
    let here : place ≡ at + 2 = search (rules, arith) in
    counted_noted s ks n m at place ts (least_tree c.args.progress.now.least) (least_tree c.note_if.new.self.least) (least_tree c.check_bracketed.new.progress.least) first second (length-map c.args.formals.now option_tree) (length-map c.args.arguments.now view) here
