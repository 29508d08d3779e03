use Rattle.std.proofs.Common.{rules, ◌≡◌, ◌<◌, ◌≤◌, ◌++◌, ◌∷◌, [], true, None, Some, map, length, slice_get, refl, ap, sym, subst, ◌∙◌}
use Rattle.std.proofs.lemmas.Option.{slice_get_past, slice_get_read}
use Rattle.ioa_check.specs.AutomatonViews.{used_names}
use Rattle.ioa_check.specs.Resolutions.{automaton_meaning, component_meaning}
use Rattle.compose.specs.Names.{automaton_at}
use Rattle.compose.specs.Tables.{mark_at}
use Rattle.compose.proofs.Marks.{at_same_place}
use Rattle.compose.specs.Outputs.{AddsOutputs, AreGiven}
use Rattle.compose.proofs.Outputs.{kept_again, kept_new, kept_without}
use Rattle.compose.proofs.hiding.visit.Goals as goal

pub returns-in_default : goal.returns-in_default
returns-in_default c =
    let none : c.args.component.now.automaton ≡ None = search rules in
    let gone = ap (automaton_at (map automaton_meaning c.args.automata.now)) none in
    λ seen known. kept_without (map automaton_meaning c.args.automata.now) seen (used_names c.args.given.now) c.args.visited.now.items (component_meaning c.args.component.now) gone known

pub returns-in_default-get : goal.returns-in_default-get
returns-in_default-get c =
    let some : c.args.component.now.automaton ≡ Some c.in-Some.number = search rules in
    let past : length c.args.automata.now ≤ c.in-Some.number = search rules in
    let none = slice_get_past c.args.automata.now c.in-Some.number past in
    let gone = ap (automaton_at (map automaton_meaning c.args.automata.now)) some ∙ at_same_place automaton_meaning c.args.automata.now c.in-Some.number None none in
    λ seen known. kept_without (map automaton_meaning c.args.automata.now) seen (used_names c.args.given.now) c.args.visited.now.items (component_meaning c.args.component.now) gone known

pub returns-then-is_marked : goal.returns-then-is_marked
returns-then-is_marked c =
    let some : c.args.component.now.automaton ≡ Some c.in-Some.number = search rules in
    let mark : mark_at c.args.visited.now.items c.in-Some.number ≡ true = search rules in
    λ seen known. kept_again (map automaton_meaning c.args.automata.now) seen (used_names c.args.given.now) c.args.visited.now.items (component_meaning c.args.component.now) c.in-Some.number some mark known

pub returns : goal.returns
returns c =
    let some : c.args.component.now.automaton ≡ Some c.in-Some.number = search rules in
    let low : c.in-Some.number < length c.args.automata.now = search rules in
    let there : slice_get c.args.automata.now c.in-Some.number ≡ Some c.in-Some-get.automaton.now = slice_get_read c.args.automata.now (length c.args.automata.now) c.in-Some.number c.in-Some-get.automaton.now refl low (search rules) in
    let adds : AddsOutputs (used_names c.add_outputs.new.given) (used_names c.args.given.now) (automaton_meaning c.in-Some-get.automaton.now).entries = search rules in
    λ seen known. subst (λ ms. AreGiven (map automaton_meaning c.args.automata.now) (seen ++ component_meaning c.args.component.now ∷ []) (used_names c.add_outputs.new.given) ms) (sym c.mark.ensures)
    (kept_new (map automaton_meaning c.args.automata.now) seen (used_names c.args.given.now) (used_names c.add_outputs.new.given) c.args.visited.now.items (component_meaning c.args.component.now) c.in-Some.number (automaton_meaning c.in-Some-get.automaton.now)
    some (at_same_place automaton_meaning c.args.automata.now c.in-Some.number (Some c.in-Some-get.automaton.now) there) adds known)
