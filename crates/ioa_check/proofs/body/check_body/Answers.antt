use Rattle.std.proofs.Common.{◌≡◌, map, string_bytes, ap, ◌∙◌}
use Rattle.ioa_trees.specs.Views.{view_automaton, view_transition}
use Rattle.ioa_trees.specs.AutomatonRules.{place_of, with_variables}
use Rattle.ioa_typing.specs.KindViews.{option_tree}
use Rattle.ioa_entries.specs.EntryViews.{meant_tree}
use Rattle.ioa_typing.specs.NameViews.{names_tree}
use Rattle.ioa_typing.specs.TermViews.{least_tree}
use Rattle.ioa_check.specs.AutomatonViews.{cell_kind, cell_start, place_lists}
use Rattle.ioa_entries.specs.TaskNames.{task_names}
use Rattle.ioa_check.proofs.Bodies.{body_noted}
use Rattle.ioa_check.proofs.AutomatonRows.{meant_is}
use Rattle.ioa_check.proofs.body.check_body.Goals as goal

pub returns-clause-names : goal.returns-clause-names
returns-clause-names c =
    let a = view_automaton c.args.automaton.now in
    c.in_ok-entries.ensures.names ∙ c.in_ok-cells.ensures.names ∙ ap (λ x. with_variables x x 0 a.variables) c.in_ok-formals.ensures.names

pub returns-clause-faults : goal.returns-clause-faults
returns-clause-faults c =
    body_noted (names_tree c.args.names.now) (names_tree c.check_front.new.names) (names_tree c.check_states.new.names)
    c.args.progress.now.at c.check_front.new.progress.at c.check_states.new.progress.at (view_automaton c.args.automaton.now)
    (least_tree c.args.progress.now.least) (least_tree c.check_front.new.progress.least) (least_tree c.check_states.new.progress.least) (least_tree c.check_actions.new.progress.least)
    c.in_ok-formals.ensures.faults c.in_ok-formals.ensures.names c.in_ok-formals.ensures.at
    c.in_ok-cells.ensures.faults c.in_ok-cells.ensures.names c.in_ok-cells.ensures.at c.in_ok-entries.ensures.faults

pub returns-clause-meant : goal.returns-clause-meant
returns-clause-meant c =
    let a = view_automaton c.args.automaton.now in
    let fs = map option_tree c.in_ok-formals.formals.items in
    let vs = map cell_kind c.in_ok-cells.cells.items in
    let es = map meant_tree c.in_ok-entries.entries.items in
    let ts = map cell_start c.in_ok-cells.cells.items in
    let ps = place_lists c.in_ok-tasks.tasks.items in
    let tasks : ps ≡ map (λ x. map (λ q. place_of q 0 a.transitions) x) a.tasks = c.in_ok-tasks.ensures
    ∙ ap (λ xs. map (λ x. map (λ q. place_of q 0 (map view_transition xs)) x) (task_names c.as_slice-named.result.now)) c.as_slice-transitions.ensures.value
    ∙ ap (λ xs. map (λ x. map (λ q. place_of q 0 a.transitions) x) (task_names xs)) c.as_slice-named.ensures.value in
    meant_is (names_tree c.args.names.now) (names_tree c.check_front.new.names) (names_tree c.check_states.new.names) a (string_bytes c.in_ok-name.name) fs vs es ts ps
    c.in_ok-name.ensures.cases c.in_ok-formals.ensures.kinds c.in_ok-entries.ensures.meant c.in_ok-cells.ensures.kinds c.in_ok-cells.ensures.starts tasks
    c.in_ok-formals.ensures.names c.in_ok-cells.ensures.names
