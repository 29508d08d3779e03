use Rattle.std.proofs.Common.{rules, ◌≡◌, ◌+◌, map, refl}
use Rattle.ioa_trees.specs.Views.{view}
use Rattle.ioa_trees.specs.Faults.{keep}
use Rattle.ioa_typing.specs.KindViews.{option_tree}
use Rattle.ioa_typing.specs.NameViews.{names_tree}
use Rattle.ioa_typing.specs.TermViews.{least_tree}
use Rattle.ioa_check.specs.ComponentParts.{bracket, fitted_faults}
use Rattle.ioa_check.proofs.Fitting.{bracketed_noted}
use Rattle.ioa_check.proofs.arguments.check_bracketed.Goals as goal

pub returns-clause-faults : goal.returns-clause-faults
returns-clause-faults c =
    let s = names_tree c.args.names.now in
    let ks = map option_tree c.args.formals.now in
    let ts = map view c.args.arguments.now in
    let place = c.args.progress.now.at + bracket ts in
    let noted : least_tree c.check_arguments.new.progress.least ≡ keep (least_tree c.args.progress.now.least) (fitted_faults s ks place ts) = search rules in
    bracketed_noted s ks c.args.progress.now.at place ts (least_tree c.args.progress.now.least) (least_tree c.check_arguments.new.progress.least) noted refl
