-- Comparing compositions tells exactly whether they are the same.
use Rattle.std.specs.Prelude.{◌≡◌, ℕ, true, ◌&&◌, nat_eq, List}
use Rattle.std.specs.Cmp.{IsEquivalence}
use Rattle.std.specs.Bool.{Decides}
use Rattle.std.proofs.Common.{rules, arith}
use Rattle.std.proofs.lemmas.Grind.{common_steps}
use Rattle.std.proofs.lemmas.Cmp.{on_equiv}
use lib.Pointwise.{pointwise, pointwise_decides}
use Rattle.terms.specs.Same.{scalar_is, scalar_refl}
use Rattle.terms.specs.SameTrees.{same_term, same_effect}
use Rattle.terms.specs.SameTreeLaws.{both_true, both_by, number_is, number_refl, term_is, term_refl, term_decides, effect_is, effect_refl, decides_by, equivalence_by}
use Rattle.terms.specs.declared.scalar.Scalar.{Scalar}
use Rattle.terms.specs.contracts.scalar.ScalarPartialEq.TheImpl as scalar_eq
use Rattle.io_automata.specs.declared.automaton.Kind.{Kind}
use Rattle.io_automata.specs.declared.automaton.Param.{Param}
use Rattle.io_automata.specs.contracts.automaton.KindPartialEq.TheImpl as kind_eq
use Rattle.io_automata.specs.contracts.automaton.ParamPartialEq.TheImpl as param_eq
use Rattle.io_automata.specs.Automata.{Transition, Instance, transition_of}
use Rattle.io_automata.specs.SameCompositions.{same_transition, same_instance, same_composition, same_entry, same_texts}

kind_is : (a b : Kind) → kind_eq.ghosts.eq a b ≡ true → a ≡ b
kind_is a b h = first_of (search rules, grind (arith, common_steps))

kind_refl : (a : Kind) → kind_eq.ghosts.eq a a ≡ true
kind_refl a = first_of (search rules, grind (arith, common_steps))

param_is : (a b : Param) → param_eq.ghosts.eq a b ≡ true → a ≡ b
param_is a b h = first_of (search rules, grind (arith, common_steps))

param_refl : (a : Param) → param_eq.ghosts.eq a a ≡ true
param_refl a = first_of (search rules, grind (arith, common_steps))

params_decide : (a b : List Param) → Decides (pointwise param_eq.ghosts.eq a b) (a ≡ b)
params_decide = pointwise_decides (decides_by param_eq.ghosts.eq param_is param_refl)

scalars_decide : (a b : List Scalar) → Decides (pointwise scalar_eq.ghosts.eq a b) (a ≡ b)
scalars_decide = pointwise_decides (decides_by scalar_eq.ghosts.eq scalar_is scalar_refl)

numbers_decide : (a b : List ℕ) → Decides (pointwise nat_eq a b) (a ≡ b)
numbers_decide = pointwise_decides (decides_by nat_eq number_is number_refl)

pub texts_decide : (a b : List (List ℕ)) → Decides (same_texts a b) (a ≡ b)
texts_decide = pointwise_decides numbers_decide

transition_is : (a b : Transition) → same_transition a b ≡ true → a ≡ b
transition_is a b h =
    let one = both_true (nat_eq a.name b.name) (kind_eq.ghosts.eq a.kind b.kind && (pointwise param_eq.ghosts.eq a.params b.params && (same_term a.precondition b.precondition && same_effect a.effect b.effect))) h in
    let two = both_true (kind_eq.ghosts.eq a.kind b.kind) (pointwise param_eq.ghosts.eq a.params b.params && (same_term a.precondition b.precondition && same_effect a.effect b.effect)) one.1 in
    let three = both_true (pointwise param_eq.ghosts.eq a.params b.params) (same_term a.precondition b.precondition && same_effect a.effect b.effect) two.1 in
    let four = both_true (same_term a.precondition b.precondition) (same_effect a.effect b.effect) three.1 in
    let names = number_is a.name b.name one.0 in
    let kinds = kind_is a.kind b.kind two.0 in
    let params = (params_decide a.params b.params).0 three.0 in
    let preconditions = term_is a.precondition b.precondition four.0 in
    let effects = effect_is a.effect b.effect four.1 in
    λ i. record { name = names i; kind = kinds i; params = params i; precondition = preconditions i; effect = effects i }

transition_refl : (a : Transition) → same_transition a a ≡ true
transition_refl a = both_by _ _ (number_refl a.name) (both_by _ _ (kind_refl a.kind) (both_by _ _ ((params_decide a.params a.params).1 (λ i. a.params)) (both_by _ _ (term_refl a.precondition) (effect_refl a.effect))))

transitions_decide : (a b : List Transition) → Decides (pointwise same_transition a b) (a ≡ b)
transitions_decide = pointwise_decides (decides_by same_transition transition_is transition_refl)

instance_is : (a b : Instance) → same_instance a b ≡ true → a ≡ b
instance_is a b h =
    let one = both_true (pointwise same_transition a.entries b.entries) (pointwise same_term a.start b.start && (same_texts a.tasks b.tasks && pointwise scalar_eq.ghosts.eq a.formals b.formals)) h in
    let two = both_true (pointwise same_term a.start b.start) (same_texts a.tasks b.tasks && pointwise scalar_eq.ghosts.eq a.formals b.formals) one.1 in
    let three = both_true (same_texts a.tasks b.tasks) (pointwise scalar_eq.ghosts.eq a.formals b.formals) two.1 in
    let entries = (transitions_decide a.entries b.entries).0 one.0 in
    let starts = (pointwise_decides term_decides a.start b.start).0 two.0 in
    let tasks = (texts_decide a.tasks b.tasks).0 three.0 in
    let formals = (scalars_decide a.formals b.formals).0 three.1 in
    λ i. record { entries = entries i; start = starts i; tasks = tasks i; formals = formals i }

instance_refl : (a : Instance) → same_instance a a ≡ true
instance_refl a = both_by _ _ ((transitions_decide a.entries a.entries).1 (λ i. a.entries)) (both_by _ _ ((pointwise_decides term_decides a.start a.start).1 (λ i. a.start)) (both_by _ _ ((texts_decide a.tasks a.tasks).1 (λ i. a.tasks)) ((scalars_decide a.formals a.formals).1 (λ i. a.formals))))

pub composition_decides : (a b : List Instance) → Decides (same_composition a b) (a ≡ b)
composition_decides = pointwise_decides (decides_by same_instance instance_is instance_refl)

pub same_entry_laws : IsEquivalence same_entry
same_entry_laws = on_equiv transition_of (equivalence_by same_transition transition_is transition_refl)
