-- What is known of the entries of all automata is a fact: it has at most one proof.
use Rattle.std.specs.Prelude.{ℕ, zero, suc, List, [], ◌∷◌, Option, None, Some}
use Rattle.std.specs.Coded.{codes, ×_prop, le_prop}
use Rattle.conditions.specs.Conditions.{AreApart, AreBranches, AreBranchesWithout, AreStages, AreTestsWithout, AreWithin, AreWithout, Binds, IsSolved}
use Rattle.conditions.specs.declared.condition.Branch.{Branch}
use Rattle.conditions.specs.declared.condition.Condition.{Condition}
use Rattle.conditions.specs.declared.condition.Stage.{Stage}
use Rattle.conditions.specs.declared.condition.Test.{Test}
use Rattle.io_automata.specs.Automata.{Transition}
use Rattle.io_automata.specs.declared.automaton.Automaton.{Automaton}
use Rattle.outcomes.specs.Tasks.{IsKnown, IsSolvedBy}
use Rattle.outcomes.specs.declared.task.Known.{Known}
use Rattle.plans.specs.Known.{AreKnown, IsKnownBy}
use Rattle.terms.specs.Datum.{datum_code}
use Rattle.terms.specs.TermTree.{TermTree}
use Rattle.terms.specs.declared.term.Term.{Term}

within_prop : (k : ℕ) (tests : List Test) → IsProp (AreWithin k tests)
within_prop k [] = Prim.hlevel codes
within_prop k (test ∷ tests) = ×_prop le_prop (within_prop k tests)

binds_prop : (k : ℕ) (tests : List Test) (bound : Option Term) → IsProp (Binds k tests bound)
binds_prop k tests None = Prim.hlevel codes
binds_prop zero tests (Some term) = Prim.hlevel codes
binds_prop (suc p) tests (Some term) = Prim.hlevel (codes, datum_code)

branches_prop : (k : ℕ) (branches : List Branch) → IsProp (AreBranches k branches)
branches_prop k [] = Prim.hlevel codes
branches_prop k (branch ∷ branches) =
    let within = within_prop k branch.tests.items in
    let binds = binds_prop k branch.tests.items branch.bound in
    let rest = branches_prop k branches in
    Prim.hlevel (codes, within, binds, rest)

stages_prop : (n k : ℕ) (stages : List Stage) → IsProp (AreStages n k stages)
stages_prop n k [] = Prim.hlevel codes
stages_prop n k (stage ∷ stages) =
    let here = branches_prop k stage.branches.items in
    let rest = stages_prop n (suc k) stages in
    Prim.hlevel (codes, here, rest)

tests_without_prop : (p : ℕ) (tests : List Test) → IsProp (AreTestsWithout p tests)
tests_without_prop p [] = Prim.hlevel codes
tests_without_prop p (test ∷ tests) = let rest = tests_without_prop p tests in Prim.hlevel (codes, rest)

branches_without_prop : (p : ℕ) (branches : List Branch) → IsProp (AreBranchesWithout p branches)
branches_without_prop p [] = Prim.hlevel codes
branches_without_prop p (branch ∷ branches) = ×_prop (tests_without_prop p branch.tests.items) (branches_without_prop p branches)

without_prop : (p : ℕ) (stages : List Stage) → IsProp (AreWithout p stages)
without_prop p [] = Prim.hlevel codes
without_prop p (stage ∷ stages) = ×_prop (branches_without_prop p stage.branches.items) (without_prop p stages)

apart_prop : (k : ℕ) (stages : List Stage) → IsProp (AreApart k stages)
apart_prop k [] = Prim.hlevel codes
apart_prop zero (stage ∷ stages) = let rest = apart_prop 1 stages in Prim.hlevel (codes, rest)
apart_prop (suc p) (stage ∷ stages) =
    let later = without_prop p stages in
    let rest = apart_prop (suc (suc p)) stages in
    Prim.hlevel (codes, later, rest)

solved_prop : (pre : TermTree) (condition : Condition) → IsProp (IsSolved pre condition)
solved_prop pre condition =
    let stages = stages_prop condition.branches 0 condition.stages.items in
    let apart = apart_prop 0 condition.stages.items in
    Prim.hlevel (codes, stages, apart)

by_prop : (entry : Transition) (found : Option Condition) → IsProp (IsSolvedBy entry found)
by_prop entry None = Prim.hlevel codes
by_prop entry (Some condition) = solved_prop entry.precondition condition

known_prop : (entries : List Transition) (known : Known) → IsProp (IsKnown entries known)
known_prop entries known = Prim.hlevel (codes, by_prop)

known_by_prop : (entries : List Transition) (found : Option Known) → IsProp (IsKnownBy entries found)
known_by_prop entries None = Prim.hlevel codes
known_by_prop entries (Some known) = known_prop entries known

pub are_known_prop : (automata : List Automaton) (known : List Known) → IsProp (AreKnown automata known)
are_known_prop automata known = Prim.hlevel (codes, known_by_prop)
