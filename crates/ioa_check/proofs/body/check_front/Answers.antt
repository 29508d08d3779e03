use Rattle.std.proofs.Common.{arith, ◌≡◌, ◌+◌, [], length, map, nat_lt, ap, ◌∙◌}
use Rattle.ioa_trees.specs.Views.{view_automaton, view_declared, view_entry, view_transition}
use Rattle.ioa_trees.specs.AutomatonRules.{formals_faults, inside, signature_at, with_formals}
use Rattle.ioa_trees.specs.EntryRules.{entries_faults}
use Rattle.ioa_trees.specs.Faults.{keep}
use Rattle.ioa_trees.specs.Sizes.{bracketed_size, declared_size}
use Rattle.ioa_typing.specs.NameViews.{names_tree}
use Rattle.ioa_typing.specs.TermViews.{least_tree}
use Rattle.ioa_entries.specs.TaskNames.{task_names}
use Rattle.ioa_check.proofs.Bodies.{front_noted}
use Rattle.ioa_check.proofs.body.check_front.Goals as goal

pub returns-clause-faults : goal.returns-clause-faults
returns-clause-faults c =
    let a = view_automaton c.args.automaton.now in
    let s = names_tree c.args.names.now in
    let t = names_tree c.check_bracketed.new.names in
    let at = c.args.progress.now.at in
    let here = c.note_if.new.self.at + 2 in
    let place = c.check_bracketed.new.progress.at + 1 in
    let p = least_tree c.note_if.new.self.least in
    let q = least_tree c.check_bracketed.new.progress.least in
    let z = least_tree c.check_entries.new.progress.least in
    let is = c.as_slice-formals.ensures.value in
    let sized : bracketed_size declared_size (map view_declared c.as_slice-formals.result.now) ≡ bracketed_size declared_size a.formals = ap (λ xs. bracketed_size declared_size (map view_declared xs)) is in
    let opened : here ≡ at + 2 = omega (arith, c.note_if.ensures.at) in
    let next : place ≡ signature_at at a + 1 = omega (arith, sized, c.in_ok-kinds.ensures.at, c.note_if.ensures.at) in
    let long : c.is_long.result ≡ nat_lt 16 (length a.formals) = c.is_long.ensures ∙ ap (λ xs. nat_lt 16 (length (map view_declared xs))) is in
    let scope : t ≡ inside s a = c.in_ok-kinds.ensures.names ∙ ap (λ xs. with_formals s 0 (map view_declared xs)) is in
    let second : q ≡ keep p (formals_faults s 0 (here + 1) a.formals) = c.in_ok-kinds.ensures.faults ∙ ap (λ xs. keep p (formals_faults s 0 (here + 1) (map view_declared xs))) is in
    let third : z ≡ keep q (entries_faults t [] a.transitions a.tasks place a.entries) = c.in_ok-check_entries.ensures.faults
    ∙ ap (λ xs. keep q (entries_faults t [] (map view_transition xs) (task_names c.as_slice-tasks.result.now) place (map view_entry c.as_slice-entries.result.now))) c.as_slice-transitions.ensures.value
    ∙ ap (λ xs. keep q (entries_faults t [] a.transitions (task_names xs) place (map view_entry c.as_slice-entries.result.now))) c.as_slice-tasks.ensures.value
    ∙ ap (λ xs. keep q (entries_faults t [] a.transitions a.tasks place (map view_entry xs))) c.as_slice-entries.ensures.value in
    front_noted s t at here place a c.is_long.result (least_tree c.args.progress.now.least) p q z c.note_if.ensures.least long second opened third scope next
