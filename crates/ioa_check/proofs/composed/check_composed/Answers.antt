use Rattle.std.proofs.Common.{rules, arith, ◌≡◌, ◌+◌, [], map, string_bytes, ap, ◌∙◌}
use Rattle.ioa_trees.specs.Views.{view_component, view_composed}
use Rattle.ioa_trees.specs.Faults.{keep}
use Rattle.ioa_trees.specs.Scopes.{taken_before}
use Rattle.ioa_trees.specs.Sizes.{component_size, listed_size}
use Rattle.ioa_trees.specs.SourceRules.{components_faults, hidden_faults}
use Rattle.ioa_typing.specs.NameViews.{names_tree}
use Rattle.ioa_typing.specs.TermViews.{least_tree}
use Rattle.ioa_check.specs.Meant.{automaton_tree}
use Rattle.ioa_check.specs.AutomatonViews.{used_names}
use Rattle.ioa_check.proofs.Hiding.{composed_noted}
use Rattle.ioa_check.proofs.Naming.{taken_same}
use Rattle.ioa_check.proofs.composed.check_composed.Goals as goal

pub returns-clause-faults : goal.returns-clause-faults
returns-clause-faults c = λ L same.
    let s = names_tree c.args.names.now in
    let table = map automaton_tree c.args.table.now in
    let used = used_names c.args.used.now in
    let at = c.args.progress.now.at in
    let x = view_composed c.args.composed.now in
    let place = c.check_name.new.progress.at + 3 in
    let last = c.check_components.new.progress.at in
    let o = least_tree c.args.progress.now.least in
    let p = least_tree c.check_name.new.progress.least in
    let q = least_tree c.check_components.new.progress.least in
    let z = least_tree c.check_hidden.new.progress.least in
    let first : p ≡ keep o (taken_before s used (at + 1) x.name) = search rules in
    let second : q ≡ keep p (components_faults s table [] place x.components) = c.in_ok-components.ensures.faults
    ∙ ap (λ xs. keep p (components_faults s table [] place (map view_component xs))) c.as_slice-placed.ensures.value in
    let third : z ≡ keep q (hidden_faults [] (last + 1) x.hidden) = c.in_ok-hidden.ensures.faults
    ∙ ap (λ xs. keep q (hidden_faults [] (last + 1) (map string_bytes xs))) c.as_slice-listed.ensures.value in
    let behind : last ≡ place + listed_size component_size x.components = c.in_ok-components.ensures.at
    ∙ ap (λ xs. place + listed_size component_size (map view_component xs)) c.as_slice-placed.ensures.value in
    composed_noted s table used L at place last x o p q z first (taken_same s used L (at + 1) x.name same)
    second (search (rules, arith)) third behind
