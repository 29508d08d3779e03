-- Tests, put at the stages at which they can be asked.
use Rattle.std.specs.Prelude.{◌≡◌, ℕ, zero, suc, ◌+◌, ◌<◌, ◌≤◌, nat_lt, nat_eq, Bool as Truth, true, false, ◌&&◌, ◌||◌, if◌then◌else◌, List, [], ◌∷◌, ◌++◌, length, get_or, replicate, drop, refl}
use Rattle.std.proofs.Common.{ap, sym, subst, ◌∙◌, arith, ◌≢◌, true≢false}
use Rattle.std.proofs.lemmas.Bool.Decides.{nat_tests}
use Rattle.std.specs.declared.alloc.Global.{Global}
use Rattle.std.specs.declared.vec.Vec.{Vec}
use Rattle.terms.specs.Datum.{Datum}
use Rattle.terms.specs.Meaning.{Scope, value, truth}
use Rattle.terms.specs.TermTree.{term_tree}
use Rattle.conditions.specs.declared.condition.Test.{Test}
use Rattle.conditions.specs.declared.condition.Branch.{Branch}
use Rattle.conditions.specs.declared.condition.Stage.{Stage}
use Rattle.conditions.specs.Conditions.{turned, test_holds, tests_hold, left_after, left_after_all, is_one_left, AreWithin, Binds, AreBranches, AreStages, AreApart, IsApart}
use Rattle.conditions.specs.Branches.{TestTree, test_tree, one_holds}
use Rattle.conditions.specs.Held.{hold_at, hold_below, each_at, each_below, each_asked, AreAllWithin}
use Rattle.conditions.specs.Reach.{reach}
use Rattle.conditions.proofs.Opening.{item_and_rest, test_more}
use Rattle.conditions.proofs.Truths.{and_true, and_assoc}

-- what reaches no further than some parameters reaches no further than more
pub within_more : (m k : ℕ) (tests : List Test) → AreWithin m tests → m ≤ k → AreWithin k tests
within_more m k [] h le = refl
within_more m k (test ∷ tests) h le = ((let r = h.0 in omega arith), within_more m k tests h.1 le)

pub within_next : (k n : ℕ) (tests : List Test) (test : Test) → n < length tests → test ≡ get_or tests n test → reach (term_tree test.term) ≤ k → AreWithin k (drop (n + 1) tests) → AreWithin k (drop n tests)
within_next k n tests test h e r w = subst (AreWithin k) (sym (item_and_rest tests n test h e)) (r, w)

pub all_within_next : (k m n : ℕ) (branches : List (Vec Test Global)) (tests : Vec Test Global) → n < length branches → tests ≡ get_or branches n tests → AreWithin m tests.items → m ≤ k → AreAllWithin k (drop (n + 1) branches) → AreAllWithin k (drop n branches)
all_within_next k m n branches tests h e a le w = subst (AreAllWithin k) (sym (item_and_rest branches n tests h e)) (within_more m k tests.items a le, w)

within_push : (k : ℕ) (tests : List Test) (test : Test) → AreWithin k tests → reach (term_tree test.term) ≤ k → AreWithin k (tests ++ test ∷ [])
within_push k [] test h r = (r, refl)
within_push k (other ∷ tests) test h r = (h.0, within_push k tests test h.1 r)

pub within_added : (k : ℕ) (tests more : List Test) (test copy : Test) → more ≡ tests ++ copy ∷ [] → test_tree copy ≡ test_tree test → reach (term_tree test.term) ≡ k → AreWithin k tests → AreWithin k more
within_added k tests more test copy e h r w =
    let same : reach (term_tree copy.term) ≡ reach (term_tree test.term) = ap (λ (t : TestTree). reach t.term) h in
    subst (AreWithin k) (sym e) (within_push k tests copy w (omega (arith, same, r)))

same_number : (a b : ℕ) → a ≡ b → nat_eq a b ≡ true
same_number a b h = grind (arith, nat_tests)

is_same : (a b : ℕ) → nat_eq a b ≡ true → a ≡ b
is_same a b h = grind (arith, nat_tests)

is_below : (a b : ℕ) → nat_lt a b ≡ true → a < b
is_below a b h = grind (arith, nat_tests)

below_is : (a b : ℕ) → a < b → nat_lt a b ≡ true
below_is a b h = grind (arith, nat_tests)

not_below : (a b : ℕ) → b ≤ a → nat_lt a b ≡ false
not_below a b h = by (nat_lt a b) refl where
  by : (c : Truth) → nat_lt a b ≡ c → c ≡ false
  by true e = let l : a < b = is_below a b e in absurd (omega arith)
  by false e = refl

not_same : (a b : ℕ) → a ≢ b → nat_eq a b ≡ false
not_same a b h = by (nat_eq a b) refl where
  by : (c : Truth) → nat_eq a b ≡ c → c ≡ false
  by true e = absurd (h (is_same a b e))
  by false e = refl

pub held_added : (k : ℕ) (tests more : List Test) (test copy : Test) → more ≡ tests ++ copy ∷ [] → test_tree copy ≡ test_tree test → reach (term_tree test.term) ≡ k → (scope : Scope) (state : List Datum) → tests_hold scope state more ≡ tests_hold scope state tests && (if nat_eq (reach (term_tree test.term)) k then test_holds scope state test else true)
held_added k tests more test copy e h r scope state =
    ap (tests_hold scope state) e
    ∙ test_more scope state tests copy
    ∙ ap (λ (t : TestTree). tests_hold scope state tests && turned t.is (truth (value t.term scope state))) h
    ∙ ap (λ b. tests_hold scope state tests && (if b then test_holds scope state test else true)) (sym (same_number (reach (term_tree test.term)) k r))

-- one more test has been put where it belongs
pub held_next : (k n : ℕ) (tests before after : List Test) (test : Test) → n < length tests → test ≡ get_or tests n test → (scope : Scope) (state : List Datum) → tests_hold scope state after ≡ tests_hold scope state before && (if nat_eq (reach (term_tree test.term)) k then test_holds scope state test else true) → tests_hold scope state after && hold_at scope state k (drop (n + 1) tests) ≡ tests_hold scope state before && hold_at scope state k (drop n tests)
held_next k n tests before after test h e scope state a =
    ap (λ b. b && hold_at scope state k (drop (n + 1) tests)) a
    ∙ and_assoc (tests_hold scope state before) (if nat_eq (reach (term_tree test.term)) k then test_holds scope state test else true) (hold_at scope state k (drop (n + 1) tests))
    ∙ ap (λ ts. tests_hold scope state before && hold_at scope state k ts) (sym (item_and_rest tests n test h e))

-- below the next parameter are those below this one and those at it
differ : (a b : ℕ) → nat_eq a b ≡ false → a ≢ b
differ a b h e = true≢false (sym (same_number a b e) ∙ h)

at_least : (a b : ℕ) → nat_lt a b ≡ false → b ≤ a
at_least a b h = first_of (grind (arith, nat_tests), grind (arith, nat_tests, h))

above : (r k : ℕ) → nat_lt r k ≡ false → nat_eq r k ≡ false → nat_lt r (suc k) ≡ false
above r k h e =
    let ne : r ≢ k = differ r k e in
    let le : k ≤ r = at_least r k h in
    let more : suc k ≤ r = omega arith in
    not_below r (suc k) more

one_below : (r k : ℕ) (h : Truth) → (if nat_lt r (suc k) then h else true) ≡ (if nat_lt r k then h else true) && (if nat_eq r k then h else true)
one_below r k h = by (nat_lt r k) refl (nat_eq r k) refl where
  is : (x y z : Truth) → nat_lt r (suc k) ≡ x → nat_lt r k ≡ y → nat_eq r k ≡ z → (if x then h else true) ≡ (if y then h else true) && (if z then h else true) → (if nat_lt r (suc k) then h else true) ≡ (if nat_lt r k then h else true) && (if nat_eq r k then h else true)
  is x y z a b c e = ap (λ v. if v then h else true) a ∙ e ∙ sym (λ i. (if b i then h else true) && (if c i then h else true))

  by : (y : Truth) → nat_lt r k ≡ y → (z : Truth) → nat_eq r k ≡ z → (if nat_lt r (suc k) then h else true) ≡ (if nat_lt r k then h else true) && (if nat_eq r k then h else true)
  by true b z c =
      let l : r < k = is_below r k b in
      let ne : r ≢ k = omega arith in
      let le : r < suc k = omega arith in
      is true true false (below_is r (suc k) le) b (not_same r k ne) (sym (and_true h))
  by false b true c =
      let same : r ≡ k = is_same r k c in
      let le : r < suc k = omega arith in
      is true false true (below_is r (suc k) le) b c refl
  by false b false c = is false false false (above r k b c) b c refl

four : (a b c d : Truth) → (a && b) && (c && d) ≡ (a && c) && (b && d)
four true true c d = refl
four true false true d = refl
four true false false d = refl
four false b c d = refl

below_next : (scope : Scope) (state : List Datum) (k : ℕ) (tests : List Test) → hold_below scope state k tests && hold_at scope state k tests ≡ hold_below scope state (suc k) tests
below_next scope state k [] = refl
below_next scope state k (test ∷ tests) =
    four (if nat_lt (reach (term_tree test.term)) k then test_holds scope state test else true) (hold_below scope state k tests) (if nat_eq (reach (term_tree test.term)) k then test_holds scope state test else true) (hold_at scope state k tests)
    ∙ (λ i. sym (one_below (reach (term_tree test.term)) k (test_holds scope state test)) i && below_next scope state k tests i)

-- a stage asks of the branches that are left what can be asked at it
left_next : (scope : Scope) (state : List Datum) (k : ℕ) (branches : List (Vec Test Global)) (asked : List Branch) → each_asked scope state asked ≡ each_at scope state k branches → left_after scope state asked (each_below scope state k branches) ≡ each_below scope state (suc k) branches
left_next scope state k [] [] h = refl
left_next scope state k [] (branch ∷ asked) h = refl
left_next scope state k (tests ∷ branches) [] h = absurd (let l : 0 ≡ suc (length (each_at scope state k branches)) = ap length h in omega arith)
left_next scope state k (tests ∷ branches) (branch ∷ asked) h =
    let here : tests_hold scope state branch.tests.items ≡ hold_at scope state k tests.items = ap (λ l. get_or l 0 true) h in
    let more : each_asked scope state asked ≡ each_at scope state k branches = ap (λ l. drop 1 l) h in
    let first = ap (λ b. hold_below scope state k tests.items && b) here ∙ below_next scope state k tests.items in
    let others = left_next scope state k branches asked more in
    λ i. first i ∷ others i

below_none : (scope : Scope) (state : List Datum) (tests : List Test) → hold_below scope state zero tests ≡ true
below_none scope state [] = refl
below_none scope state (test ∷ tests) =
    ap (λ b. (if b then test_holds scope state test else true) && hold_below scope state zero tests) (not_below (reach (term_tree test.term)) zero (let le : zero ≤ reach (term_tree test.term) = omega arith in le))
    ∙ below_none scope state tests

-- before any stage all branches are left
each_none : (scope : Scope) (state : List Datum) (branches : List (Vec Test Global)) → replicate (length branches) true ≡ each_below scope state zero branches
each_none scope state [] = refl
each_none scope state (tests ∷ branches) = λ i. sym (below_none scope state tests.items) i ∷ each_none scope state branches i

below_all : (scope : Scope) (state : List Datum) (k : ℕ) (tests : List Test) → AreWithin k tests → hold_below scope state (suc k) tests ≡ tests_hold scope state tests
below_all scope state k [] h = refl
below_all scope state k (test ∷ tests) h =
    let less : reach (term_tree test.term) < suc k = (let le = h.0 in omega arith) in
    (λ i. (if below_is (reach (term_tree test.term)) (suc k) less i then test_holds scope state test else true) && below_all scope state k tests h.1 i)

-- after the last stage the branches are left that hold
pub all_asked : (scope : Scope) (state : List Datum) (k : ℕ) (branches : List (Vec Test Global)) → AreAllWithin k branches → is_one_left (each_below scope state (suc k) branches) ≡ one_holds scope state branches
all_asked scope state k [] h = refl
all_asked scope state k (tests ∷ branches) h = λ i. below_all scope state k tests.items h.0 i || all_asked scope state k branches h.1 i

branches_push : (k : ℕ) (branches : List Branch) (branch : Branch) → AreBranches k branches → AreWithin k branch.tests.items → Binds k branch.tests.items branch.bound → AreBranches k (branches ++ branch ∷ [])
branches_push k [] branch h w b = (w, b, refl)
branches_push k (other ∷ branches) branch h w b = (h.0, h.1, branches_push k branches branch h.2 w b)

-- one branch more
pub branches_next : (k : ℕ) (branches more : List Branch) (branch : Branch) → more ≡ branches ++ branch ∷ [] → AreBranches k branches → AreWithin k branch.tests.items → Binds k branch.tests.items branch.bound → AreBranches k more
branches_next k branches more branch e h w b = subst (AreBranches k) (sym e) (branches_push k branches branch h w b)

asked_more : (scope : Scope) (state : List Datum) (branches : List Branch) (branch : Branch) (left : List Truth) → each_asked scope state (branches ++ branch ∷ []) ++ left ≡ each_asked scope state branches ++ tests_hold scope state branch.tests.items ∷ left
asked_more scope state [] branch left = refl
asked_more scope state (other ∷ branches) branch left = ap (λ l. tests_hold scope state other.tests.items ∷ l) (asked_more scope state branches branch left)

pub asked_next : (k n : ℕ) (lists : List (Vec Test Global)) (tests : Vec Test Global) (branches more : List Branch) (branch : Branch) → more ≡ branches ++ branch ∷ [] → n < length lists → tests ≡ get_or lists n tests → (scope : Scope) (state : List Datum) → tests_hold scope state branch.tests.items ≡ hold_at scope state k tests.items → each_asked scope state more ++ each_at scope state k (drop (n + 1) lists) ≡ each_asked scope state branches ++ each_at scope state k (drop n lists)
asked_next k n lists tests branches more branch e h i scope state a =
    ap (λ l. each_asked scope state l ++ each_at scope state k (drop (n + 1) lists)) e
    ∙ asked_more scope state branches branch (each_at scope state k (drop (n + 1) lists))
    ∙ ap (λ b. each_asked scope state branches ++ b ∷ each_at scope state k (drop (n + 1) lists)) a
    ∙ ap (λ ls. each_asked scope state branches ++ each_at scope state k ls) (sym (item_and_rest lists n tests h i))

pub count_more : {A : Type 0} (xs more : List A) (x : A) (n : ℕ) → more ≡ xs ++ x ∷ [] → length xs ≡ n → length more ≡ suc n
count_more {A = A} xs more x n e h = ap length e ∙ all xs ∙ ap suc h where
  all : (ys : List A) → length (ys ++ x ∷ []) ≡ suc (length ys)
  all [] = refl
  all (y ∷ ys) = ap suc (all ys)

-- the last stages, of which the first is asked once `from` parameters have values
pub record AreMade (branches : List (Vec Test Global)) (last : ℕ) (stages : List Stage) : Type 0 where
  pub from : ℕ
  pub all : from + length stages ≡ suc last
  pub are : AreStages (length branches) from stages
  pub held : (scope : Scope) (state : List Datum) → left_after_all scope state stages (each_below scope state from branches) ≡ each_below scope state (suc last) branches
  pub apart : AreApart from stages

pub stages_begin : (branches : List (Vec Test Global)) (stages : List Stage) (last : ℕ) → stages ≡ [] → AreMade branches last stages
stages_begin branches stages last e = subst (AreMade branches last) (sym e) (record { from = suc last; all = omega arith; are = refl; held = λ scope state. refl; apart = refl })

-- the stage before them
pub stages_go_on : (branches : List (Vec Test Global)) (stages more : List Stage) (stage : Stage) (k last : ℕ) → more ≡ stage ∷ stages → k + length stages ≡ last → AreMade branches last stages → AreBranches k stage.branches.items → ((scope : Scope) (state : List Datum) → each_asked scope state stage.branches.items ≡ each_at scope state k branches) → length stage.branches.items ≡ length branches → IsApart k stage.apart stages → AreMade branches last more
stages_go_on branches stages more stage k last e l made s h m a =
    let next : made.from ≡ suc k = omega (arith, made.all, l) in
    subst (AreMade branches last) (sym e) (record {
      from = k;
      all = omega (arith, l);
      are = (m, s, subst (λ j. AreStages (length branches) j stages) next made.are);
      held = λ scope state.
          ap (left_after_all scope state stages) (left_next scope state k branches stage.branches.items (h scope state) ∙ ap (λ j. each_below scope state j branches) (sym next))
          ∙ made.held scope state;
      apart = (a, subst (λ j. AreApart j stages) next made.apart);
    })

-- all of them, asked of all branches
pub all_held : (branches : List (Vec Test Global)) (last : ℕ) (stages : List Stage) (made : AreMade branches last stages) → last < length stages → (scope : Scope) (state : List Datum) → left_after_all scope state stages (replicate (length branches) true) ≡ each_below scope state (suc last) branches
all_held branches last stages made h scope state =
    let first : made.from ≡ 0 = omega (arith, made.all, h) in
    ap (left_after_all scope state stages) (each_none scope state branches ∙ ap (λ j. each_below scope state j branches) (sym first))
    ∙ made.held scope state

pub all_met : (scope : Scope) (state : List Datum) (branches others : List (Vec Test Global)) (last number : ℕ) (stages : List Stage) → others ≡ branches → number ≡ length branches → AreAllWithin last others → left_after_all scope state stages (replicate (length others) true) ≡ each_below scope state (suc last) others → is_one_left (left_after_all scope state stages (replicate number true)) ≡ one_holds scope state branches
all_met scope state branches others last number stages e n w h =
    ap (λ j. is_one_left (left_after_all scope state stages (replicate j true))) (n ∙ ap length (sym e))
    ∙ ap is_one_left h
    ∙ all_asked scope state last others w
    ∙ ap (one_holds scope state) e
