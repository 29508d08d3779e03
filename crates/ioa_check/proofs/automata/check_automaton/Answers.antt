use Rattle.std.proofs.Common.{◌≡◌, ◌||◌, bytes_eq, ap, ◌∙◌}
use Rattle.std.specs.List.{list_any}
use Rattle.std.specs.Option.{is_some}
use Rattle.ioa_trees.specs.Views.{view_automaton}
use Rattle.ioa_trees.specs.AutomatonRules.{body_faults, meaning_of}
use Rattle.ioa_trees.specs.Faults.{keep}
use Rattle.ioa_trees.specs.Scopes.{named}
use Rattle.ioa_typing.specs.NameViews.{names_tree}
use Rattle.ioa_typing.specs.TermViews.{least_tree}
use Rattle.ioa_check.specs.AutomatonViews.{used_names}
use Rattle.ioa_check.proofs.AutomatonRows.{automaton_noted}
use Rattle.ioa_check.proofs.automata.check_automaton.Goals as goal

pub returns-clause-faults : goal.returns-clause-faults
returns-clause-faults c =
    let s = names_tree c.args.names.now in
    let t = names_tree c.declare.new.self in
    let a = view_automaton c.args.automaton.now in
    let noted = c.note_if.new.self in
    let used = used_names c.args.used.now in
    let taken : c.is_taken-taken.result ≡ (is_some (named a.name s) || list_any (bytes_eq a.name) used) = c.is_taken-taken.ensures ∙ ap (λ q. is_some (named q s) || list_any (bytes_eq q) used) c.as_str.ensures.value in
    automaton_noted s t used c.args.number c.args.progress.now.at a c.is_taken-taken.result
    (least_tree c.args.progress.now.least) (least_tree noted.least) (least_tree c.check_inside.new.progress.least)
    c.note_if.ensures.least taken (c.in_ok-meant.ensures.faults ∙ ap (λ n. keep (least_tree noted.least) (body_faults t n a)) c.note_if.ensures.at) c.in_ok-declare.ensures.names

pub returns-clause-meant : goal.returns-clause-meant
returns-clause-meant c =
    let a = view_automaton c.args.automaton.now in
    c.in_ok-meant.ensures.meant ∙ ap (λ x. meaning_of x a) c.in_ok-declare.ensures.names
