use Rattle.std.proofs.Common.{rules, arith, ◌≡◌, ◌+◌}
use Rattle.ioa_trees.specs.Views.{view_variable}
use Rattle.ioa_trees.specs.Faults.{keep}
use Rattle.ioa_trees.specs.Sizes.{type_size}
use Rattle.ioa_trees.specs.TypeRules.{kind_of}
use Rattle.ioa_typing.specs.KindViews.{option_tree}
use Rattle.ioa_typing.specs.NameViews.{names_tree}
use Rattle.ioa_typing.specs.TermViews.{least_tree}
use Rattle.ioa_check.specs.AutomatonParts.{head_faults, start_faults}
use Rattle.ioa_check.specs.AutomatonViews.{used_names}
use Rattle.ioa_check.proofs.Cells.{variable_noted}
use Rattle.ioa_check.proofs.variables.check_variable.Goals as goal

pub returns-clause-faults : goal.returns-clause-faults
returns-clause-faults c =
    let s = names_tree c.args.names.now in
    let used = used_names c.args.used.now in
    let at = c.args.progress.now.at in
    let v = view_variable c.args.variable.now in
    let head = c.check_head.new.progress in
    let place = head.at + 1 in
    let k = option_tree c.in_ok-kind.kind in
    let first : least_tree head.least ≡ keep (least_tree c.args.progress.now.least) (head_faults s used c.args.before at v.declared) = search rules in
    let second : least_tree c.check_start.new.progress.least ≡ keep (least_tree head.least) (start_faults s k place v.start) = search rules in
    let kind : k ≡ kind_of s v.declared.of = search rules in
    let here : place ≡ at + type_size v.declared.of + 3 = search (rules, arith) in
    variable_noted s used c.args.before at place k v (least_tree c.args.progress.now.least) (least_tree head.least) (least_tree c.check_start.new.progress.least) first second kind here
