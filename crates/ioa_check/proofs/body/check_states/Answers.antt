use Rattle.std.proofs.Common.{◌≡◌, ◌+◌, map, ap, ◌∙◌}
use Rattle.ioa_trees.specs.Views.{view_automaton, view_entry, view_variable}
use Rattle.ioa_trees.specs.AutomatonRules.{entry_names, variables_faults, with_variables}
use Rattle.ioa_trees.specs.Faults.{keep}
use Rattle.ioa_typing.specs.NameViews.{names_tree}
use Rattle.ioa_typing.specs.TermViews.{least_tree}
use Rattle.ioa_check.specs.Bodies.{word}
use Rattle.ioa_check.specs.AutomatonViews.{cell_kind, used_names}
use Rattle.ioa_check.proofs.Bodies.{variables_place, word_map}
use Rattle.ioa_check.proofs.AutomatonRows.{from_none}
use Rattle.ioa_check.proofs.body.check_states.Goals as goal

pub returns-clause-names : goal.returns-clause-names
returns-clause-names c =
    let s = names_tree c.args.names.now in
    c.in_ok-declare_variables.ensures s (ap (map cell_kind) c.as_slice.ensures.value ∙ c.in_ok-cells.ensures.kinds)
    ∙ ap (λ xs. with_variables s s 0 (map view_variable xs)) c.as_slice-variables.ensures.value

pub returns-clause-faults : goal.returns-clause-faults
returns-clause-faults c =
    let s = names_tree c.args.names.now in
    let a = view_automaton c.args.automaton.now in
    let at = c.args.progress.now.at in
    let o = least_tree c.args.progress.now.least in
    let w = c.word-ahead.result in
    let here = map view_variable c.as_slice-variables.result.now in
    let names = entry_names (map view_entry c.as_slice-entries.result.now) in
    let is : w ≡ word a.variables = c.word-ahead.ensures ∙ ap word c.as_slice-variables.ensures.value ∙ word_map view_variable c.args.automaton.now.variables.items in
    c.in_ok-cells.ensures.faults names (from_none (used_names c.use_parameters.new.used) names (used_names c.new-used.result) c.new-used.ensures c.in_ok-use_parameters.ensures)
    ∙ ap (λ xs. keep o (variables_faults s (entry_names (map view_entry xs)) 0 (at + w) here)) c.as_slice-entries.ensures.value
    ∙ ap (λ xs. keep o (variables_faults s (entry_names a.entries) 0 (at + w) (map view_variable xs))) c.as_slice-variables.ensures.value
    ∙ ap (λ n. keep o (variables_faults s (entry_names a.entries) 0 (at + n) a.variables)) is
    ∙ ap (keep o) (variables_place s (entry_names a.entries) at a.variables)
