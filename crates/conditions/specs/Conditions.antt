-- A precondition solved: branches of which one has to hold, and for each the tests that are asked as soon as their parameters have values.
use Rattle.std.specs.Prelude.{◌≡◌, ℕ, zero, suc, ◌≤◌, Bool as Truth, true, false, not, ◌&&◌, ◌||◌, List, [], ◌∷◌, length, replicate, Option, None, Some}
use Rattle.terms.specs.Datum.{Datum, Just}
use Rattle.terms.specs.Meaning.{Scope, value, truth, slot}
use Rattle.terms.specs.TermTree.{TermTree, term_tree}
use Rattle.terms.specs.declared.term.Term.{Term}
use Rattle.conditions.specs.declared.condition.Test.{Test}
use Rattle.conditions.specs.declared.condition.Branch.{Branch}
use Rattle.conditions.specs.declared.condition.Stage.{Stage}
use Rattle.conditions.specs.declared.condition.Condition.{Condition}
use Rattle.conditions.specs.Mentions.{mentions}
use Rattle.conditions.specs.Reach.{reach}

-- a truth value, or its inverse
abbrev pub turned : Truth → Truth → Truth
turned true b = b
turned false b = not b

-- a test holds: its term is true, or isn't, as it says
abbrev pub test_holds : Scope → List Datum → Test → Truth
test_holds scope state test = turned test.is (truth (value (term_tree test.term) scope state))

abbrev pub tests_hold : Scope → List Datum → List Test → Truth
tests_hold scope state [] = true
tests_hold scope state (test ∷ tests) = test_holds scope state test && tests_hold scope state tests

-- which branches are left after a stage: those that were left before it, and all of whose tests hold
abbrev pub left_after : Scope → List Datum → List Branch → List Truth → List Truth
left_after scope state [] left = []
left_after scope state (branch ∷ branches) [] = []
left_after scope state (branch ∷ branches) (here ∷ left) = (here && tests_hold scope state branch.tests.items) ∷ left_after scope state branches left

-- which are left after some stages
abbrev pub left_after_all : Scope → List Datum → List Stage → List Truth → List Truth
left_after_all scope state [] left = left
left_after_all scope state (stage ∷ stages) left = left_after_all scope state stages (left_after scope state stage.branches.items left)

-- whether one is left
abbrev pub is_one_left : List Truth → Truth
is_one_left [] = false
is_one_left (here ∷ left) = here || is_one_left left

-- the condition holds where one of its branches is left after all stages
abbrev pub is_met : Scope → List Datum → Condition → Truth
is_met scope state condition = is_one_left (left_after_all scope state condition.stages.items (replicate condition.branches true))

-- each test mentions only the first k parameters
abbrev pub AreWithin : ℕ → List Test → Type 0
AreWithin k [] = zero ≡ zero
AreWithin k (test ∷ tests) = (reach (term_tree test.term) ≤ k) × AreWithin k tests

-- where the tests hold, the last of the first k parameters has the value of a term, which mentions only those before it; and where there is no other test, the test holds where it has that value
abbrev pub Binds : ℕ → List Test → Option Term → Type 0
Binds k tests None = zero ≡ zero
Binds zero tests (Some term) = ⊥
Binds (suc p) tests (Some term) = (reach (term_tree term) ≤ p) × ((scope : Scope) (state : List Datum) → tests_hold scope state tests ≡ true → value (term_tree term) scope state ≡ Just (slot scope.parameters p)) × ((scope : Scope) (state : List Datum) → length tests ≡ 1 → value (term_tree term) scope state ≡ Just (slot scope.parameters p) → tests_hold scope state tests ≡ true)

abbrev pub AreBranches : ℕ → List Branch → Type 0
AreBranches k [] = zero ≡ zero
AreBranches k (branch ∷ branches) = AreWithin k branch.tests.items × Binds k branch.tests.items branch.bound × AreBranches k branches

-- the stages from the one at which the first k parameters have values; each has n branches
abbrev pub AreStages : ℕ → ℕ → List Stage → Type 0
AreStages n k [] = zero ≡ zero
AreStages n k (stage ∷ stages) = (length stage.branches.items ≡ n) × AreBranches k stage.branches.items × AreStages n (suc k) stages

-- no test mentions parameter p
abbrev pub AreTestsWithout : ℕ → List Test → Type 0
AreTestsWithout p [] = zero ≡ zero
AreTestsWithout p (test ∷ tests) = (mentions p (term_tree test.term) ≡ false) × AreTestsWithout p tests

-- the same of each branch
abbrev pub AreBranchesWithout : ℕ → List Branch → Type 0
AreBranchesWithout p [] = zero ≡ zero
AreBranchesWithout p (branch ∷ branches) = AreTestsWithout p branch.tests.items × AreBranchesWithout p branches

-- no test of these stages mentions parameter p
abbrev pub AreWithout : ℕ → List Stage → Type 0
AreWithout p [] = zero ≡ zero
AreWithout p (stage ∷ stages) = AreBranchesWithout p stage.branches.items × AreWithout p stages

-- the stage after the first k parameters is apart only if no later stage mentions the last of these; the stage before all parameters is not apart
abbrev pub IsApart : ℕ → Truth → List Stage → Type 0
IsApart zero apart later = apart ≡ false
IsApart (suc p) apart later = apart ≡ true → AreWithout p later

-- this holds of each of the stages from the one at which the first k parameters have values
abbrev pub AreApart : ℕ → List Stage → Type 0
AreApart k [] = zero ≡ zero
AreApart k (stage ∷ stages) = IsApart k stage.apart stages × AreApart (suc k) stages

-- the condition is a precondition solved
pub record IsSolved (pre : TermTree) (condition : Condition) : Type 0 where
  pub met : (scope : Scope) (state : List Datum) → is_met scope state condition ≡ truth (value pre scope state)
  pub stages : AreStages condition.branches 0 condition.stages.items
  pub few : condition.branches ≤ 16
  pub apart : AreApart 0 condition.stages.items
