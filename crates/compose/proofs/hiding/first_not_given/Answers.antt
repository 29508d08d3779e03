use Rattle.std.proofs.Common.{◌≡◌, ◌∙◌, ap, ap₂, sym, [], map, List, string_bytes, bytes_eq, ℕ}
use Rattle.std.specs.List.{list_any}
use Rattle.ioa_check.specs.AutomatonViews.{used_names}
use Rattle.ioa_check.specs.Resolutions.{automaton_meaning, component_meaning, meaning}
use Rattle.ioa_check.specs.declared.resolved.Automaton.{Automaton}
use Rattle.ioa_check.specs.declared.resolved.Component.{Component}
use Rattle.compose.specs.Faults.{gives_in, is_given}
use Rattle.compose.proofs.Missing.{emptied, none_hidden, missing_first}
use Rattle.compose.proofs.hiding.first_not_given.Goals as goal

pub returns-then-is_empty : goal.returns-then-is_empty
returns-then-is_empty c =
    let names = c.as_slice-names.result.now in
    let none : names ≡ [] = emptied names c.is_empty.result c.is_empty.ensures c.if-is_empty.true in
    none_hidden (meaning c.args.resolved.now) (ap (map string_bytes) (sym c.as_slice-names.ensures.value ∙ none))

pub returns : goal.returns
returns c =
    let m = meaning c.args.resolved.now in
    let given = used_names c.in_ok-given.given in
    let are : (q : List ℕ) → list_any (bytes_eq q) given ≡ is_given m q =
    λ q. c.in_ok-given.ensures q ∙ ap₂ (λ (as' : List Automaton) (cs : List Component). list_any (gives_in (map automaton_meaning as') q) (map component_meaning cs)) c.as_slice-automata.ensures.value c.as_slice-components.ensures.value in
    missing_first m c.as_slice-names.result.now (ap (map string_bytes) c.as_slice-names.ensures.value) given are c.first_missing-first.result c.first_missing-first.ensures.some c.first_missing-first.ensures.none
