-- The names of a whole source, from what the table of names has.
use Rattle.std.proofs.Common.{◌≡◌, ◌<◌, ◌≤◌, ◌+◌, ℕ, Bool, true, false, is_some, List, [], ◌∷◌, map, length, bytes_eq, sym, ap, subst, ◌∙◌, arith}
use Rattle.std.proofs.lemmas.List.{length-map}
use Rattle.std.proofs.lemmas.List.Sums.{sum_by-cons}
use Rattle.std.specs.List.{list_any}
use Rattle.plans.specs.Plans.{text_of, types_of}
use Rattle.io_automata.specs.declared.automaton.ActionName.{ActionName}
use Rattle.ioa_trees.specs.AutomatonRules.{MeantAutomaton}
use Rattle.ioa_trees.specs.SourceRules.{MeantSource}
use Rattle.compose.specs.Names.{AreNames, IsRising, Signature, entries_in, first_in, first_types, none_if_missing, signatures_of}
use Rattle.compose.specs.Tables.{IsTable, action_signature, marked_entries}
use Rattle.compose.proofs.Rising.{any_first, own_types, shapes_are, texts_are}

pub are_names : (m : MeantSource) (names : List Signature) (marks : List Bool) (actions : List ActionName)
    → IsTable m.automata m.components names marks → map action_signature actions ≡ names → IsRising (map text_of actions) → AreNames (map text_of actions) m
are_names m names marks actions known same rising = record {
  rising = rising;
  used = λ q. ap (list_any (bytes_eq q)) (sym (texts_are actions) ∙ ap (map (λ s. s.name)) same) ∙ any_first names q ∙ ap is_some (known.first q) ∙ sym (any_first (signatures_of m.automata m.components) q);
}

pub first_types_are : (m : MeantSource) (names : List Signature) (marks : List Bool) (actions : List ActionName)
    → IsTable m.automata m.components names marks → map action_signature actions ≡ names → IsRising (map text_of actions) → map types_of actions ≡ map (first_types m) (map text_of actions)
first_types_are m names marks actions known same rising =
    let texts : map (λ s. s.name) names ≡ map text_of actions = ap (map (λ s. s.name)) (sym same) ∙ texts_are actions in
    sym (shapes_are actions) ∙ ap (map (λ s. s.types)) same ∙ own_types names (subst IsRising (sym texts) rising)
    ∙ ap (λ l. map (λ q. none_if_missing (first_in names q)) l) texts
    ∙ (λ i. map (λ q. none_if_missing (known.first q i)) (map text_of actions))

abbrev entries : MeantAutomaton → ℕ
entries a = length a.entries

marked_at_most : (marks : List Bool) (automata : List MeantAutomaton) → marked_entries marks automata ≤ entries_in automata
marked_at_most [] automata = omega arith
marked_at_most (b ∷ bs) [] = omega arith
marked_at_most (true ∷ bs) (a ∷ others) =
    let sum : entries_in (a ∷ others) ≡ length a.entries + entries_in others = sum_by-cons entries a others in
    let rest = marked_at_most bs others in
    omega (arith, rest, sum)
marked_at_most (false ∷ bs) (a ∷ others) =
    let sum : entries_in (a ∷ others) ≡ length a.entries + entries_in others = sum_by-cons entries a others in
    let rest = marked_at_most bs others in
    omega (arith, rest, sum)

pub few_names : (m : MeantSource) (names : List Signature) (marks : List Bool) (actions : List ActionName) (most : ℕ)
    → IsTable m.automata m.components names marks → map action_signature actions ≡ names → entries_in m.automata < most → length actions < most
few_names m names marks actions most known same few =
    let long = ap length (sym same) ∙ length-map actions action_signature in
    let at_most = known.few in
    let all = marked_at_most marks m.automata in
    omega (arith, long, at_most, all, few)
