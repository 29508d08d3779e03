-- What is known of the branches that are left after stages.
use Rattle.std.specs.Prelude.{◌≡◌, ℕ, zero, suc, Bool as Truth, true, false, ◌&&◌, ◌||◌, List, [], ◌∷◌, take, length, refl}
use Rattle.std.proofs.Common.{ap, ◌∙◌, true≢false, arith}
use Rattle.terms.specs.Datum.{Datum}
use Rattle.terms.specs.Meaning.{Scope, truth, slot}
use Rattle.terms.specs.TermTree.{term_tree}
use Rattle.terms.specs.declared.scalar.Scalar.{Scalar}
use Rattle.conditions.specs.declared.condition.Test.{Test}
use Rattle.conditions.specs.declared.condition.Branch.{Branch}
use Rattle.conditions.specs.declared.condition.Stage.{Stage}
use Rattle.conditions.specs.Conditions.{turned, tests_hold, left_after, left_after_all, is_one_left, AreWithin, AreBranches, AreStages, AreTestsWithout, AreBranchesWithout, AreWithout}
use Rattle.conditions.specs.Mentions.{same_without}
use Rattle.conditions.specs.Reach.{same_within}

-- (a) tests that mention only the first k parameters hold for all arguments with the same first k, or for none
pub same_tests : (k : ℕ) (tests : List Test) (scope : Scope) (state : List Datum) (args others : List Scalar) → AreWithin k tests → take k args ≡ take k others → tests_hold (record scope { parameters = args }) state tests ≡ tests_hold (record scope { parameters = others }) state tests
same_tests k [] scope state args others h e = refl
same_tests k (test ∷ tests) scope state args others h e =
    let here = same_within (term_tree test.term) scope state args others k h.0 e in
    let more = same_tests k tests scope state args others h.1 e in
    λ i. turned test.is (truth (here i)) && more i

-- (b) so the same branches are left
pub same_left : (k : ℕ) (branches : List Branch) (scope : Scope) (state : List Datum) (args others : List Scalar) (left : List Truth) → AreBranches k branches → take k args ≡ take k others → left_after (record scope { parameters = args }) state branches left ≡ left_after (record scope { parameters = others }) state branches left
same_left k [] scope state args others left h e = refl
same_left k (branch ∷ branches) scope state args others [] h e = refl
same_left k (branch ∷ branches) scope state args others (here ∷ left) h e =
    let first = same_tests k branch.tests.items scope state args others h.0 e in
    let more = same_left k branches scope state args others left h.2 e in
    λ i. (here && first i) ∷ more i

-- (c) a stage says of each branch whether it is left
pub left_length : (scope : Scope) (state : List Datum) (n : ℕ) (branches : List Branch) (left : List Truth) → length branches ≡ n → length left ≡ n → length (left_after scope state branches left) ≡ n
left_length scope state n [] left h k = h
left_length scope state n (branch ∷ branches) [] h k = k
left_length scope state zero (branch ∷ branches) (here ∷ left) h k = omega arith
left_length scope state (suc n) (branch ∷ branches) (here ∷ left) h k =
    ap suc (left_length scope state n branches left (omega arith) (omega arith))

pub left_all_length : (scope : Scope) (state : List Datum) (n k : ℕ) (stages : List Stage) (left : List Truth) → AreStages n k stages → length left ≡ n → length (left_after_all scope state stages left) ≡ n
left_all_length scope state n k [] left h e = e
left_all_length scope state n k (stage ∷ stages) left h e =
    left_all_length scope state n (suc k) stages (left_after scope state stage.branches.items left) h.2 (left_length scope state n stage.branches.items left h.0 e)

neither : (a b : Truth) → a || b ≡ false → (a ≡ false) × (b ≡ false)
neither true b h = absurd (true≢false h)
neither false b h = (refl, h)

none_after : (scope : Scope) (state : List Datum) (branches : List Branch) (left : List Truth) → is_one_left left ≡ false → is_one_left (left_after scope state branches left) ≡ false
none_after scope state [] left h = refl
none_after scope state (branch ∷ branches) [] h = refl
none_after scope state (branch ∷ branches) (true ∷ left) h = absurd (true≢false h)
none_after scope state (branch ∷ branches) (false ∷ left) h = none_after scope state branches left h

-- (d) where no branch is left, none is left later
pub none_left : (scope : Scope) (state : List Datum) (stages : List Stage) (left : List Truth) → is_one_left left ≡ false → is_one_left (left_after_all scope state stages left) ≡ false
none_left scope state [] left h = h
none_left scope state (stage ∷ stages) left h =
    none_left scope state stages (left_after scope state stage.branches.items left) (none_after scope state stage.branches.items left h)

tests_without : (p : ℕ) (tests : List Test) (scope : Scope) (state : List Datum) (args others : List Scalar) → AreTestsWithout p tests → ((n : ℕ) → (n ≡ p → ⊥) → slot args n ≡ slot others n) → tests_hold (record scope { parameters = args }) state tests ≡ tests_hold (record scope { parameters = others }) state tests
tests_without p [] scope state args others h e = refl
tests_without p (test ∷ tests) scope state args others h e =
    let here = same_without (term_tree test.term) scope state args others p h.0 e in
    let more = tests_without p tests scope state args others h.1 e in
    λ i. turned test.is (truth (here i)) && more i

left_without : (p : ℕ) (branches : List Branch) (scope : Scope) (state : List Datum) (args others : List Scalar) (left : List Truth) → AreBranchesWithout p branches → ((n : ℕ) → (n ≡ p → ⊥) → slot args n ≡ slot others n) → left_after (record scope { parameters = args }) state branches left ≡ left_after (record scope { parameters = others }) state branches left
left_without p [] scope state args others left h e = refl
left_without p (branch ∷ branches) scope state args others [] h e = refl
left_without p (branch ∷ branches) scope state args others (here ∷ left) h e =
    let first = tests_without p branch.tests.items scope state args others h.0 e in
    let more = left_without p branches scope state args others left h.1 e in
    λ i. (here && first i) ∷ more i

-- (e) stages that do not mention a parameter leave the same branches, whatever value it has
pub same_later : (p : ℕ) (stages : List Stage) (scope : Scope) (state : List Datum) (args others : List Scalar) (left : List Truth) → AreWithout p stages → ((n : ℕ) → (n ≡ p → ⊥) → slot args n ≡ slot others n) → left_after_all (record scope { parameters = args }) state stages left ≡ left_after_all (record scope { parameters = others }) state stages left
same_later p [] scope state args others left h e = refl
same_later p (stage ∷ stages) scope state args others left h e =
    same_later p stages scope state args others (left_after (record scope { parameters = args }) state stage.branches.items left) h.1 e
    ∙ ap (left_after_all (record scope { parameters = others }) state stages) (left_without p stage.branches.items scope state args others left h.0 e)
