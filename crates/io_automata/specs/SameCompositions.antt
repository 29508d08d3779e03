-- Whether two compositions are the same, component by component.
use Rattle.std.specs.Prelude.{ℕ, Bool as Truth, ◌&&◌, nat_eq, List}
use lib.Pointwise.{pointwise}
use Rattle.terms.specs.SameTrees.{same_term, same_effect}
use Rattle.terms.specs.declared.scalar.Scalar.{Scalar}
use Rattle.terms.specs.contracts.scalar.ScalarPartialEq.TheImpl as scalar_eq
use Rattle.io_automata.specs.declared.automaton.Entry.{Entry}
use Rattle.io_automata.specs.contracts.automaton.KindPartialEq.TheImpl as kind_eq
use Rattle.io_automata.specs.contracts.automaton.ParamPartialEq.TheImpl as param_eq
use Rattle.io_automata.specs.Automata.{Transition, Instance, transition_of}

-- whether two entries have the same action, kind, parameters, precondition and effect
abbrev pub same_transition : Transition → Transition → Truth
same_transition a b = nat_eq a.name b.name && (kind_eq.ghosts.eq a.kind b.kind && (pointwise param_eq.ghosts.eq a.params b.params && (same_term a.precondition b.precondition && same_effect a.effect b.effect)))

-- whether two lists of texts, or of lists of places, are the same
abbrev pub same_texts : List (List ℕ) → List (List ℕ) → Truth
same_texts a b = pointwise (pointwise nat_eq) a b

abbrev pub same_formals : List Scalar → List Scalar → Truth
same_formals a b = pointwise scalar_eq.ghosts.eq a b

-- whether two components have the same entries, start values, tasks and values of formals
abbrev pub same_instance : Instance → Instance → Truth
same_instance a b = pointwise same_transition a.entries b.entries && (pointwise same_term a.start b.start && (same_texts a.tasks b.tasks && same_formals a.formals b.formals))

-- whether two compositions have as many components, each the same as the other's
abbrev pub same_composition : List Instance → List Instance → Truth
same_composition a b = pointwise same_instance a b

-- whether two entries of the code have the same transition
abbrev pub same_entry : Entry → Entry → Truth
same_entry a b = same_transition (transition_of a) (transition_of b)
