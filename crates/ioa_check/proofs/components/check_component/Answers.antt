use Rattle.std.proofs.Common.{rules, arith, ◌≡◌, ◌+◌, bytes_eq, map, ap}
use Rattle.std.specs.List.{list_any}
use Rattle.ioa_trees.specs.Views.{view_component}
use Rattle.ioa_trees.specs.Faults.{keep, where_wrong}
use Rattle.ioa_trees.specs.Scopes.{automaton_meant, named}
use Rattle.ioa_trees.specs.SourceRules.{formals_at}
use Rattle.ioa_typing.specs.NameViews.{names_tree}
use Rattle.ioa_typing.specs.TermViews.{least_tree}
use Rattle.ioa_check.specs.Meant.{automaton_tree}
use Rattle.ioa_check.specs.AutomatonViews.{used_names}
use Rattle.ioa_check.specs.ComponentParts.{placing_faults}
use Rattle.ioa_check.proofs.Naming.{component_noted}
use Rattle.ioa_check.proofs.components.check_component.Goals as goal

pub returns-clause-faults : goal.returns-clause-faults
returns-clause-faults c =
    let s = names_tree c.args.names.now in
    let table = map automaton_tree c.args.table.now in
    let before = used_names c.args.used.now in
    let at = c.args.progress.now.at in
    let x = view_component c.args.component.now in
    let o = least_tree c.args.progress.now.least in
    let p = least_tree c.check_name.new.progress.least in
    let z = least_tree c.check_placing.new.progress.least in
    let place = c.check_name.new.progress.at + 2 in
    let ks = formals_at table c.automaton_named-automaton.result in
    let first : p ≡ keep o (where_wrong (list_any (bytes_eq x.name) before) at 11) = search rules in
    let second : z ≡ keep p (placing_faults s ks place x.arguments) = search rules in
    let here : place ≡ at + 2 = search (rules, arith) in
    let known : c.automaton_named-automaton.result ≡ automaton_meant (named x.automaton s) = search rules in
    component_noted s table before at place x ks o p z first second here (ap (formals_at table) known)
