use Rattle.std.proofs.Common.{◌≡◌, ◌+◌, [], map, refl, string_bytes, ap, ◌∙◌}
use Rattle.ioa_trees.specs.Views.{view_automaton, view_entry, view_transition}
use Rattle.ioa_trees.specs.AutomatonRules.{tasks_faults}
use Rattle.ioa_trees.specs.EntryRules.{transitions_faults}
use Rattle.ioa_trees.specs.Faults.{keep}
use Rattle.ioa_trees.specs.Sizes.{row_size, transition_size}
use Rattle.ioa_typing.specs.NameViews.{names_tree}
use Rattle.ioa_typing.specs.TermViews.{least_tree}
use Rattle.ioa_check.specs.Bodies.{word}
use Rattle.ioa_entries.specs.TaskNames.{task_names}
use Rattle.ioa_check.proofs.Bodies.{actions_noted, word_map}
use Rattle.ioa_check.proofs.body.check_actions.Goals as goal

pub returns-clause-faults : goal.returns-clause-faults
returns-clause-faults c =
    let a = view_automaton c.args.automaton.now in
    let s = names_tree c.args.names.now in
    let at = c.args.progress.now.at in
    let place = c.check_transitions.new.progress.at in
    let w = c.word-ahead.result in
    let o = least_tree c.args.progress.now.least in
    let p = least_tree c.check_transitions.new.progress.least in
    let z = least_tree c.check_tasks.new.progress.least in
    let entries = c.as_slice-entries.ensures.value in
    let transitions = c.as_slice-transitions.ensures.value in
    let tasks = c.as_slice-tasks.ensures.value in
    let is : w ≡ word a.tasks = c.word-ahead.ensures ∙ ap word tasks ∙ word_map (λ t. map string_bytes t.items) c.args.automaton.now.tasks.items in
    let first : p ≡ keep o (transitions_faults s a.entries [] (at + 1) a.transitions) = c.in_ok-meant.ensures.faults
    ∙ ap (λ xs. keep o (transitions_faults s (map view_entry xs) [] (at + 1) (map view_transition c.as_slice-transitions.result.now))) entries
    ∙ ap (λ xs. keep o (transitions_faults s a.entries [] (at + 1) (map view_transition xs))) transitions in
    let behind : place ≡ at + 1 + row_size transition_size a.transitions = c.in_ok-meant.ensures.at ∙ ap (λ xs. at + 1 + row_size transition_size (map view_transition xs)) transitions in
    let second : z ≡ keep p (tasks_faults a.entries [] (place + w) a.tasks) = c.in_ok-check_tasks.ensures.faults
    ∙ ap (λ xs. keep p (tasks_faults (map view_entry xs) [] (place + w) (task_names c.as_slice-tasks.result.now))) entries
    ∙ ap (λ xs. keep p (tasks_faults a.entries [] (place + w) (task_names xs))) tasks in
    actions_noted s at (at + 1) place w a o p z first refl second behind is
