use Rattle.std.proofs.Common.{rules, ◌++◌}
use Rattle.ioa_trees.specs.Views.{view_automaton}
use Rattle.ioa_trees.specs.AutomatonRules.{all_loops, all_of, entry_names}
use Rattle.ioa_check.specs.AutomatonParts.{formal_names, variable_names}
use Rattle.ioa_check.specs.Sets.{Adds}
use Rattle.ioa_check.specs.AutomatonViews.{used_names}
use Rattle.ioa_check.proofs.Lists.{added_both}
use Rattle.ioa_check.proofs.locals.use_locals.Goals as goal

pub returns : goal.returns
returns c =
    let a = view_automaton c.args.automaton.now in
    let before = used_names c.args.used.now in
    let first = used_names c.use_formals.new.used in
    let second = used_names c.use_parameters.new.used in
    let third = used_names c.use_variables.new.used in
    let last = used_names c.use_transitions.new.used in
    let formals = formal_names a.formals in
    let entries = entry_names a.entries in
    let variables = variable_names a.variables in
    let loops = all_of (λ t. all_loops t.eff) a.transitions in
    let one : Adds first formals before = search rules in
    let two : Adds second entries first = search rules in
    let three : Adds third variables second = search rules in
    let four : Adds last loops third = search rules in
    added_both last first before formals (entries ++ (variables ++ loops)) one (added_both last second first entries (variables ++ loops) two (added_both last third second variables loops three four))
