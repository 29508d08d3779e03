-- Components with the automata that were made for them are the instances that the source means.
use Rattle.std.proofs.Common.{◌≡◌, ◌<◌, ◌+◌, ℕ, zero, suc, Bool, true, false, ◌&&◌, ◌||◌, if◌then◌else◌, Option, Some, None, option_map, List, [], ◌∷◌, map, length, slice_get, nat_eq, nat_lt, refl, sym, ap, ◌∙◌, arith}
use Rattle.std.proofs.lemmas.Bool.Decides.{nat_tests}
use Rattle.std.proofs.lemmas.Option.{slice_get-map}
use Rattle.terms.specs.declared.scalar.Scalar.{Scalar}
use Rattle.io_automata.specs.Automata.{Instance, absent, composed, instance_of, placed, with_formals}
use Rattle.io_automata.specs.declared.automaton.Automaton.{Automaton}
use Rattle.io_automata.specs.declared.automaton.Component.{Component}
use Rattle.ioa_trees.specs.AutomatonRules.{MeantAutomaton}
use Rattle.ioa_trees.specs.SourceRules.{MeantComponent}
use Rattle.ioa_trees.specs.Trees.{Bytes}
use Rattle.compose.specs.Instances.{argument, built, instance}
use Rattle.compose.specs.Names.{automaton_at}
use Rattle.compose.specs.Tables.{converted, has_automaton, is_at, mark_at, meant_parts, number_or, parts_in}

abbrev by_parts : List Automaton → ℕ × List Scalar → Instance
by_parts made p = placed p.1 (slice_get made p.0)

composed_is : (made : List Automaton) (cs : List Component) → composed made cs ≡ map (by_parts made) (map parts_in cs)
composed_is made [] = refl
composed_is made (c ∷ cs) = ap (λ r. instance_of made c ∷ r) (composed_is made cs)

converted_none : (names : List Bytes) (marks : List Bool) (n : ℕ) (automata : List MeantAutomaton) (k : ℕ) → slice_get automata k ≡ None → slice_get (converted names marks n automata) k ≡ None
converted_none names marks n [] k none = refl
converted_none names marks n (a ∷ others) zero none = cc
converted_none names marks n (a ∷ others) (suc k) none = converted_none names marks (n + 1) others k none

converted_some : (names : List Bytes) (marks : List Bool) (n : ℕ) (automata : List MeantAutomaton) (k : ℕ) (a : MeantAutomaton)
    → slice_get automata k ≡ Some a → mark_at marks (n + k) ≡ true → slice_get (converted names marks n automata) k ≡ Some (built names [] (Some a))
converted_some names marks n [] k a is mark = cc
converted_some names marks n (x ∷ others) zero a is mark =
    let place : n + 0 ≡ n = omega arith in
    let here : mark_at marks n ≡ true = ap (mark_at marks) (sym place) ∙ mark in
    ap (λ b. Some (if b then built names [] (Some x) else absent)) here ∙ ap (λ o. Some (built names [] o)) is
converted_some names marks n (x ∷ others) (suc k) a is mark =
    let place : n + 1 + k ≡ n + suc k = omega arith in
    converted_some names marks (n + 1) others k a is (ap (mark_at marks) place ∙ mark)

abbrev with_values : List Scalar → Instance → Instance
with_values formals i = record i { formals = formals }

-- an automaton that was made, with formals
made_some : (o : Option Automaton) (names : List Bytes) (formals : List Scalar) (a : MeantAutomaton) → option_map (with_formals []) o ≡ Some (built names [] (Some a)) → placed formals o ≡ built names formals (Some a)
made_some None names formals a is = cc
made_some (Some x) names formals a is = ap (λ o. with_values formals (some_or o)) is
  where
    some_or : Option Instance → Instance
    some_or None = absent
    some_or (Some i) = i

made_none : (o : Option Automaton) (names : List Bytes) (formals : List Scalar) → option_map (with_formals []) o ≡ None → placed formals o ≡ built names formals None
made_none None names formals is = refl
made_none (Some x) names formals is = cc

beyond_all : {A : Type 0} (xs : List A) → slice_get xs (length xs) ≡ None
beyond_all [] = refl
beyond_all (x ∷ xs) = beyond_all xs

low_of : {A : Type 0} (xs : List A) (k : ℕ) (x : A) → slice_get xs k ≡ Some x → k < length xs
low_of [] k x is = cc
low_of (y ∷ xs) zero x is = omega arith
low_of (y ∷ xs) (suc k) x is = let less = low_of xs k x is in omega (arith, less)

one : (names : List Bytes) (automata : List MeantAutomaton) (marks : List Bool) (made : List Automaton) (beyond : ℕ) (m : MeantComponent)
    → map (with_formals []) made ≡ converted names marks 0 automata → beyond ≡ length automata
    → ((n : ℕ) → is_at n m.automaton ≡ true → n < length automata → mark_at marks n ≡ true) → by_parts made (meant_parts beyond m) ≡ instance names automata m
one names automata marks made beyond m same end marked = by m.automaton refl
  where
    seen : (k : ℕ) → option_map (with_formals []) (slice_get made k) ≡ slice_get (converted names marks 0 automata) k
    seen k = sym (slice_get-map (with_formals []) made k) ∙ ap (λ l. slice_get l k) same

    at : (k : ℕ) → is_at k m.automaton ≡ true → (o : Option MeantAutomaton) → slice_get automata k ≡ o → placed (map argument m.arguments) (slice_get made k) ≡ built names (map argument m.arguments) o
    at k here None is = made_none (slice_get made k) names (map argument m.arguments) (seen k ∙ converted_none names marks 0 automata k is)
    at k here (Some a) is =
        let place : 0 + k ≡ k = omega arith in
        let mark = ap (mark_at marks) place ∙ marked k here (low_of automata k a is) in
        made_some (slice_get made k) names (map argument m.arguments) a (seen k ∙ converted_some names marks 0 automata k a is mark)

    by : (o : Option ℕ) → m.automaton ≡ o → placed (map argument m.arguments) (slice_get made (number_or beyond m.automaton)) ≡ built names (map argument m.arguments) (automaton_at automata m.automaton)
    by None is =
        ap (λ o. placed (map argument m.arguments) (slice_get made (number_or beyond o))) is
        ∙ made_none (slice_get made beyond) names (map argument m.arguments) (seen beyond ∙ converted_none names marks 0 automata beyond (ap (slice_get automata) end ∙ beyond_all automata))
        ∙ ap (λ o. built names (map argument m.arguments) (automaton_at automata o)) (sym is)
    by (Some k) is =
        let own : nat_eq k k ≡ true = grind (arith, nat_tests) in
        ap (λ o. placed (map argument m.arguments) (slice_get made (number_or beyond o))) is
        ∙ at k (ap (is_at k) is ∙ own) (slice_get automata k) refl
        ∙ ap (λ o. built names (map argument m.arguments) (automaton_at automata o)) (sym is)

all : (names : List Bytes) (automata : List MeantAutomaton) (marks : List Bool) (made : List Automaton) (beyond : ℕ) (ms : List MeantComponent)
    → map (with_formals []) made ≡ converted names marks 0 automata → beyond ≡ length automata
    → ((n : ℕ) → has_automaton n ms ≡ true → n < length automata → mark_at marks n ≡ true) → map (by_parts made) (map (meant_parts beyond) ms) ≡ map (instance names automata) ms
all names automata marks made beyond [] same end marked = refl
all names automata marks made beyond (m ∷ ms) same end marked =
    let first = one names automata marks made beyond m same end (λ n here low. marked n (ap (λ b. b || has_automaton n ms) here) low) in
    let others = all names automata marks made beyond ms same end (λ n here low. marked n (right n here) low) in
    λ i. first i ∷ others i
  where
    or_true : (b : Bool) → (b || true) ≡ true
    or_true true = refl
    or_true false = refl

    right : (n : ℕ) → has_automaton n ms ≡ true → (is_at n m.automaton || has_automaton n ms) ≡ true
    right n here = ap (λ b. is_at n m.automaton || b) here ∙ or_true (is_at n m.automaton)

-- the composition that was made
pub composition_is : (names : List Bytes) (automata : List MeantAutomaton) (ms : List MeantComponent) (marks : List Bool) (made : List Automaton) (cs : List Component) (beyond : ℕ)
    → map (with_formals []) made ≡ converted names marks 0 automata → map parts_in cs ≡ map (meant_parts beyond) ms → beyond ≡ length automata
    → ((n : ℕ) → mark_at marks n ≡ (nat_lt n (length automata) && has_automaton n ms)) → composed made cs ≡ map (instance names automata) ms
composition_is names automata ms marks made cs beyond same parts end marked =
    composed_is made cs ∙ ap (map (by_parts made)) parts ∙ all names automata marks made beyond ms same end there
  where
    there : (n : ℕ) → has_automaton n ms ≡ true → n < length automata → mark_at marks n ≡ true
    there n here low =
        let less : nat_lt n (length automata) ≡ true = grind (arith, nat_tests) in
        marked n ∙ ap (λ b. b && has_automaton n ms) less ∙ here
