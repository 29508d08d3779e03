-- What tests say of parameters.
use Rattle.std.specs.Prelude.{◌≡◌, ℕ, zero, suc, ◌<◌, ◌≤◌, Bool as Truth, true, false, ◌&&◌, List, [], ◌∷◌, ◌++◌, length, get_or, map, Option, None, Some, Result, Ok, Err, IfOk, IfSome, refl}
use Rattle.std.proofs.Common.{ap, sym, subst, ◌∙◌, arith, true≢false}
use Rattle.terms.specs.Datum.{Datum, Just}
use Rattle.terms.specs.Meaning.{Scope, value, truth, slot}
use Rattle.terms.specs.Same.{same, same_is, same_refl}
use Rattle.terms.specs.TermTree.{TermTree, LinkTree, On, Parameter, linked, link_on, link_tree, operand_tree, term_tree}
use Rattle.terms.specs.declared.refusal.NoMemory.{NoMemory}
use Rattle.terms.specs.declared.term.Link.{Link}
use Rattle.terms.specs.declared.term.Operator.TheVariants.{Same}
use Rattle.terms.specs.declared.term.Term.{Term}
use Rattle.conditions.specs.declared.condition.Test.{Test}
use Rattle.conditions.specs.Bounds.{Gives}
use Rattle.conditions.specs.Conditions.{turned, test_holds, tests_hold, Binds}
use Rattle.conditions.specs.Reach.{reach}
use Rattle.conditions.proofs.Opening.{whole_links}
use Rattle.conditions.proofs.Truths.{and_true}

-- of a term that is kept, all is known that was known of the term
kept_gives : (p : ℕ) (t : TermTree) (copy : Term) → ((scope : Scope) (state : List Datum) → truth (value t scope state) ≡ true → value (term_tree copy) scope state ≡ Just (slot scope.parameters p)) → ((scope : Scope) (state : List Datum) → value (term_tree copy) scope state ≡ Just (slot scope.parameters p) → truth (value t scope state) ≡ true) → (found : Result (Option Term) NoMemory) → IfOk found (λ o. IfSome o (λ kept. kept ≡ copy)) → IfOk found (λ o. IfSome o (λ kept. reach (term_tree kept) ≤ p)) → IfOk found (λ o. IfSome o (λ term. Gives p t term))
kept_gives p t copy h back (Err e) k w = k
kept_gives p t copy h back (Ok None) k w = k
kept_gives p t copy h back (Ok (Some kept)) k w =
    let one : (scope : Scope) (state : List Datum) → value (term_tree kept) scope state ≡ value (term_tree copy) scope state = λ scope state. ap (λ (term : Term). value (term_tree term) scope state) k in
    (w, λ scope state b. one scope state ∙ h scope state b, λ scope state b. back scope state (sym (one scope state) ∙ b))

-- equal data are found to be the same
equal_same : (d e : Datum) → d ≡ e → same d e ≡ true
equal_same d e h = ap (same d) (sym h) ∙ same_refl d

-- an equation with a parameter on the right, or on the left, says what it is
pub left_gives : (p : ℕ) (left : TermTree) (link : LinkTree) (right copy : Term) → link ≡ On Same (term_tree right) → term_tree right ≡ Parameter p → term_tree copy ≡ left → (found : Result (Option Term) NoMemory) → IfOk found (λ o. IfSome o (λ kept. kept ≡ copy)) → IfOk found (λ o. IfSome o (λ kept. reach (term_tree kept) ≤ p)) → IfOk found (λ o. IfSome o (λ term. Gives p (link_on left link) term))
left_gives p left link right copy l r c found =
    let stands : (scope : Scope) (state : List Datum) → truth (value (link_on left link) scope state) ≡ same (value left scope state) (Just (slot scope.parameters p)) = λ scope state. ap (λ x. truth (value (link_on left x) scope state)) (l ∙ ap (On Same) r) in
    let copied : (scope : Scope) (state : List Datum) → value (term_tree copy) scope state ≡ value left scope state = λ scope state. ap (λ t. value t scope state) c in
    kept_gives p (link_on left link) copy
    (λ scope state b. copied scope state ∙ same_is (value left scope state) (Just (slot scope.parameters p)) (sym (stands scope state) ∙ b))
    (λ scope state b. stands scope state ∙ equal_same (value left scope state) (Just (slot scope.parameters p)) (sym (copied scope state) ∙ b))
    found

pub right_gives : (p : ℕ) (left : TermTree) (link : LinkTree) (right copy : Term) → link ≡ On Same (term_tree right) → left ≡ Parameter p → term_tree copy ≡ term_tree right → (found : Result (Option Term) NoMemory) → IfOk found (λ o. IfSome o (λ kept. kept ≡ copy)) → IfOk found (λ o. IfSome o (λ kept. reach (term_tree kept) ≤ p)) → IfOk found (λ o. IfSome o (λ term. Gives p (link_on left link) term))
right_gives p left link right copy l r c found =
    let stands : (scope : Scope) (state : List Datum) → truth (value (link_on left link) scope state) ≡ same (Just (slot scope.parameters p)) (value (term_tree right) scope state) = λ scope state. (λ i. truth (value (link_on (r i) (l i)) scope state)) in
    let copied : (scope : Scope) (state : List Datum) → value (term_tree copy) scope state ≡ value (term_tree right) scope state = λ scope state. ap (λ t. value t scope state) c in
    kept_gives p (link_on left link) copy
    (λ scope state b. copied scope state ∙ sym (same_is (Just (slot scope.parameters p)) (value (term_tree right) scope state) (sym (stands scope state) ∙ b)))
    (λ scope state b. stands scope state ∙ equal_same (Just (slot scope.parameters p)) (value (term_tree right) scope state) (sym b ∙ copied scope state))
    found

-- what is said of the chain is said of the term
pub chain_gives : (p : ℕ) (term : Term) (links before : List Link) (link : Link) → links ≡ term.links.items → links ≡ before ++ link ∷ [] → (found : Result (Option Term) NoMemory) → IfOk found (λ o. IfSome o (λ bound. Gives p (link_on (linked (operand_tree term.first) (map link_tree before)) (link_tree link)) bound)) → IfOk found (λ o. IfSome o (λ bound. Gives p (term_tree term) bound))
chain_gives p term links before link e h found g =
    let There : TermTree → Type 0 = λ t. IfOk found (λ o. IfSome o (λ bound. Gives p t bound)) in
    subst There (whole_links term links before link e h) g

first_true : (a b : Truth) → a && b ≡ true → a ≡ true
first_true true b h = refl
first_true false b h = h

second_true : (a b : Truth) → a && b ≡ true → b ≡ true
second_true true b h = h
second_true false b h = absurd (true≢false (sym h))

one_of : (scope : Scope) (state : List Datum) (tests : List Test) (n : ℕ) (test : Test) → n < length tests → test ≡ get_or tests n test → tests_hold scope state tests ≡ true → test_holds scope state test ≡ true
one_of scope state [] n test h e t = absurd (omega arith)
one_of scope state (other ∷ tests) zero test h e t = ap (test_holds scope state) e ∙ first_true (test_holds scope state other) (tests_hold scope state tests) t
one_of scope state (other ∷ tests) (suc n) test h e t = one_of scope state tests n test (omega arith) e (second_true (test_holds scope state other) (tests_hold scope state tests) t)

-- a test that stands alone is all of them
alone : (scope : Scope) (state : List Datum) (tests : List Test) (n : ℕ) (test : Test) → n < length tests → test ≡ get_or tests n test → length tests ≡ 1 → test_holds scope state test ≡ true → tests_hold scope state tests ≡ true
alone scope state [] n test h e one t = absurd (omega (arith, one))
alone scope state (other ∷ []) zero test h e one t = and_true (test_holds scope state other) ∙ sym (ap (test_holds scope state) e) ∙ t
alone scope state (other ∷ []) (suc n) test h e one t = absurd (omega (arith, h))
alone scope state (other ∷ another ∷ tests) n test h e one t = absurd (omega (arith, one))

-- what one of the tests says, all say
pub one_binds : (p n : ℕ) (tests : List Test) (test : Test) (found : Option Term) (bound : Term) → n < length tests → test ≡ get_or tests n test → found ≡ Some bound → IfSome found (λ term. Gives p (term_tree test.term) term) → IfSome found (λ term. test.is ≡ true) → Binds (suc p) tests (Some bound)
one_binds p n tests test found bound h e f g is =
    let There : Option Term → Type 0 = λ o. IfSome o (λ term. Gives p (term_tree test.term) term) in
    let Is : Option Term → Type 0 = λ o. IfSome o (λ term. test.is ≡ true) in
    let there : Gives p (term_tree test.term) bound = subst There f g in
    let on : test.is ≡ true = subst Is f is in
    let stands : (scope : Scope) (state : List Datum) → test_holds scope state test ≡ truth (value (term_tree test.term) scope state) = λ scope state. ap (λ b. turned b (truth (value (term_tree test.term) scope state))) on in
    (there.0, λ scope state t. there.1 scope state (sym (stands scope state) ∙ one_of scope state tests n test h e t), λ scope state one b. alone scope state tests n test h e one (stands scope state ∙ there.2 scope state b))
