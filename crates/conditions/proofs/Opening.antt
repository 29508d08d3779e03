-- What branches say, as they are put together.
use Rattle.std.specs.Prelude.{◌≡◌, ℕ, zero, suc, ◌+◌, ◌<◌, ◌≤◌, Bool as Truth, true, false, not, ◌&&◌, ◌||◌, List, [], ◌∷◌, ◌++◌, length, get_or, map, take, drop, Option, Some, IfSome, refl}
use Rattle.std.proofs.Common.{ap, sym, subst, ◌∙◌, arith}
use Rattle.std.specs.declared.alloc.Global.{Global}
use Rattle.std.specs.declared.vec.Vec.{Vec}
use Rattle.terms.specs.Datum.{Datum}
use Rattle.terms.specs.Meaning.{Scope, value, truth}
use Rattle.terms.specs.Linked.{opened}
use Rattle.terms.specs.TermTree.{TermTree, LinkTree, Binary, linked, link_on, link_tree, operand_tree, term_tree}
use Rattle.terms.specs.declared.term.Link.{Link}
use Rattle.terms.specs.declared.term.Operator.TheVariants.{Both, Either}
use Rattle.terms.specs.declared.term.Term.{Term}
use Rattle.conditions.specs.declared.condition.Test.{Test}
use Rattle.conditions.specs.Conditions.{turned, test_holds, tests_hold}
use Rattle.conditions.specs.Branches.{TestTree, test_tree, one_holds, Stand, joined}
use Rattle.conditions.proofs.Truths.{and_true, or_false, and_assoc, or_assoc, spread, spread_both, turned_both, turned_either}

trees_hold : Scope → List Datum → List TestTree → Truth
trees_hold scope state [] = true
trees_hold scope state (test ∷ tests) = turned test.is (truth (value test.term scope state)) && trees_hold scope state tests

hold_by_trees : (scope : Scope) (state : List Datum) (tests : List Test) → tests_hold scope state tests ≡ trees_hold scope state (map test_tree tests)
unfolding trees_hold
hold_by_trees scope state [] = refl
hold_by_trees scope state (test ∷ tests) = ap (λ b. test_holds scope state test && b) (hold_by_trees scope state tests)

trees_more : (scope : Scope) (state : List Datum) (tests more : List TestTree) → trees_hold scope state (tests ++ more) ≡ trees_hold scope state tests && trees_hold scope state more
unfolding trees_hold
trees_more scope state [] more = refl
trees_more scope state (test ∷ tests) more =
    ap (λ b. turned test.is (truth (value test.term scope state)) && b) (trees_more scope state tests more)
    ∙ sym (and_assoc (turned test.is (truth (value test.term scope state))) (trees_hold scope state tests) (trees_hold scope state more))

-- tests that are those of two lists hold where both lists do
pub product_holds : (tests first second : List Test) → map test_tree tests ≡ map test_tree first ++ map test_tree second → (scope : Scope) (state : List Datum) → tests_hold scope state tests ≡ tests_hold scope state first && tests_hold scope state second
product_holds tests first second h scope state =
    hold_by_trees scope state tests
    ∙ ap (trees_hold scope state) h
    ∙ trees_more scope state (map test_tree first) (map test_tree second)
    ∙ sym (λ i. hold_by_trees scope state first i && hold_by_trees scope state second i)

-- a test more
pub test_more : (scope : Scope) (state : List Datum) (tests : List Test) (test : Test) → tests_hold scope state (tests ++ test ∷ []) ≡ tests_hold scope state tests && test_holds scope state test
test_more scope state [] test = and_true (test_holds scope state test)
test_more scope state (other ∷ tests) test =
    ap (λ b. test_holds scope state other && b) (test_more scope state tests test)
    ∙ sym (and_assoc (test_holds scope state other) (tests_hold scope state tests) (test_holds scope state test))

pub branches_more : (scope : Scope) (state : List Datum) (branches more : List (Vec Test Global)) → one_holds scope state (branches ++ more) ≡ one_holds scope state branches || one_holds scope state more
branches_more scope state [] more = refl
branches_more scope state (tests ∷ branches) more =
    ap (λ b. tests_hold scope state tests.items || b) (branches_more scope state branches more)
    ∙ sym (or_assoc (tests_hold scope state tests.items) (one_holds scope state branches) (one_holds scope state more))

pub branch_more : (scope : Scope) (state : List Datum) (branches : List (Vec Test Global)) (tests : Vec Test Global) → one_holds scope state (branches ++ tests ∷ []) ≡ one_holds scope state branches || tests_hold scope state tests.items
branch_more scope state branches tests =
    branches_more scope state branches (tests ∷ [])
    ∙ ap (λ b. one_holds scope state branches || b) (or_false (tests_hold scope state tests.items))

-- a branch of one test
pub one_stands : (test : Test) (t : TermTree) (is : Truth) (branch : Vec Test Global) → branch.items ≡ test ∷ [] → term_tree test.term ≡ t → test.is ≡ is → Stand t is (branch ∷ [])
one_stands test t is branch e h k scope state =
    or_false (tests_hold scope state branch.items)
    ∙ ap (tests_hold scope state) e
    ∙ and_true (test_holds scope state test)
    ∙ (λ i. turned (k i) (truth (value (h i) scope state)))

-- one more product of a branch
pub with_product : (all more others left : List (Vec Test Global)) (one other : Vec Test Global) (tests : List Test) (scope : Scope) (state : List Datum) → more ≡ all ++ one ∷ [] → map test_tree one.items ≡ map test_tree tests ++ map test_tree other.items → others ≡ other ∷ left → one_holds scope state more || (tests_hold scope state tests && one_holds scope state left) ≡ one_holds scope state all || (tests_hold scope state tests && one_holds scope state others)
with_product all more others left one other tests scope state e h k =
    (λ i. (ap (one_holds scope state) e ∙ branch_more scope state all one ∙ ap (λ b. one_holds scope state all || b) (product_holds one.items tests other.items h scope state)) i || (tests_hold scope state tests && one_holds scope state left))
    ∙ spread (one_holds scope state all) (tests_hold scope state tests) (tests_hold scope state other.items) (one_holds scope state left)
    ∙ ap (λ list. one_holds scope state all || (tests_hold scope state tests && one_holds scope state list)) (sym k)

-- the products of one more branch
pub with_products : (all more first second left : Truth) (tests : Truth) → more ≡ all || (tests && second) → first ≡ tests || left → more || (left && second) ≡ all || (first && second)
with_products all more first second left tests h k =
    ap (λ b. b || (left && second)) h
    ∙ spread_both all tests left second
    ∙ ap (λ b. all || (b && second)) (sym k)

-- the branches of what `and` joins
pub both_stand : (t right : TermTree) (is : Truth) (before others all : List (Vec Test Global)) → Stand right is others → ((scope : Scope) (state : List Datum) → one_holds scope state all ≡ joined is (one_holds scope state before) (one_holds scope state others)) → Stand t is before → Stand (Binary Both t right) is all
both_stand t right is before others all h k b scope state =
    k scope state
    ∙ (λ i. joined is (b scope state i) (h scope state i))
    ∙ turned_both is (truth (value t scope state)) (truth (value right scope state))

pub either_stand : (t right : TermTree) (is : Truth) (before others all : List (Vec Test Global)) → Stand right is others → ((scope : Scope) (state : List Datum) → one_holds scope state all ≡ joined (not is) (one_holds scope state before) (one_holds scope state others)) → Stand t is before → Stand (Binary Either t right) is all
either_stand t right is before others all h k b scope state =
    k scope state
    ∙ (λ i. joined (not is) (b scope state i) (h scope state i))
    ∙ turned_either is (truth (value t scope state)) (truth (value right scope state))

-- the same branches stand for the same tree
pub stand_along : (t other : TermTree) (is : Truth) (branches : List (Vec Test Global)) → t ≡ other → Stand t is branches → Stand other is branches
stand_along t other is branches h stand scope state = stand scope state ∙ ap (λ tree. turned is (truth (value tree scope state))) h

take_next : {A : Type 0} (xs : List A) (n : ℕ) (x : A) → n < length xs → x ≡ get_or xs n x → take (suc n) xs ≡ take n xs ++ x ∷ []
take_next [] n x h e = absurd (omega arith)
take_next (y ∷ xs) zero x h e = ap (λ z. z ∷ []) (sym e)
take_next (y ∷ xs) (suc n) x h e = ap (λ zs. y ∷ zs) (take_next xs n x (omega arith) e)

take_whole : {A : Type 0} (xs : List A) (n : ℕ) → length xs ≤ n → take n xs ≡ xs
take_whole [] zero h = refl
take_whole [] (suc n) h = refl
take_whole (x ∷ xs) zero h = absurd (omega arith)
take_whole (x ∷ xs) (suc n) h = ap (λ ys. x ∷ ys) (take_whole xs n (omega arith))

map_more : {A B : Type 0} (f : A → B) (xs : List A) (x : A) → map f (xs ++ x ∷ []) ≡ map f xs ++ f x ∷ []
map_more f [] x = refl
map_more f (y ∷ xs) x = ap (λ zs. f y ∷ zs) (map_more f xs x)

linked_more : (term : TermTree) (links : List LinkTree) (link : LinkTree) → linked term (links ++ link ∷ []) ≡ link_on (linked term links) link
linked_more term [] link = refl
linked_more term (other ∷ links) link = linked_more (link_on term other) links link

-- a chain up to the next link
pub next_link : (first : TermTree) (links : List Link) (n : ℕ) (link : Link) → n < length links → link ≡ get_or links n link → link_on (linked first (map link_tree (take n links))) (link_tree link) ≡ linked first (map link_tree (take (n + 1) links))
next_link first links n link h e =
    sym (linked_more first (map link_tree (take n links)) (link_tree link))
    ∙ ap (linked first) (sym (map_more link_tree (take n links) link))
    ∙ ap (λ ls. linked first (map link_tree ls)) (sym ((let one : n + 1 ≡ suc n = omega arith in ap (λ m. take m links) one) ∙ take_next links n link h e))

-- a chain with all its links is the term
pub whole_chain : (term : Term) (links : List Link) (n : ℕ) → links ≡ term.links.items → length links ≤ n → linked (operand_tree term.first) (map link_tree (take n links)) ≡ term_tree term
whole_chain term links n e h =
    ap (λ ls. linked (operand_tree term.first) (map link_tree ls)) (take_whole links n h ∙ e)
    ∙ sym (opened term)

pub products_met : (made branches first second fs ss : List (Vec Test Global)) (both : Truth) → made ≡ branches → both ≡ true → fs ≡ first → ss ≡ second → ((scope : Scope) (state : List Datum) → one_holds scope state branches ≡ one_holds scope state fs && one_holds scope state ss) → (scope : Scope) (state : List Datum) → one_holds scope state made ≡ joined both (one_holds scope state first) (one_holds scope state second)
products_met made branches first second fs ss both m b f s h scope state =
    ap (one_holds scope state) m
    ∙ h scope state
    ∙ (λ i. joined (sym b i) (one_holds scope state (f i)) (one_holds scope state (s i)))

pub together_met : (made branches first second : List (Vec Test Global)) (both : Truth) → made ≡ branches → both ≡ false → branches ≡ first ++ second → (scope : Scope) (state : List Datum) → one_holds scope state made ≡ joined both (one_holds scope state first) (one_holds scope state second)
together_met made branches first second both m b e scope state =
    ap (one_holds scope state) (m ∙ e)
    ∙ branches_more scope state first second
    ∙ (λ i. joined (sym b i) (one_holds scope state first) (one_holds scope state second))

-- what is left of a list begins with the item at the place
pub item_and_rest : {A : Type 0} (xs : List A) (n : ℕ) (x : A) → n < length xs → x ≡ get_or xs n x → drop n xs ≡ x ∷ drop (n + 1) xs
item_and_rest {A = A} xs n x h e = split xs n h e ∙ (let one : suc n ≡ n + 1 = omega arith in ap (λ m. x ∷ drop m xs) one) where
  split : (ys : List A) (m : ℕ) → m < length ys → x ≡ get_or ys m x → drop m ys ≡ x ∷ drop (suc m) ys
  split [] m k i = absurd (omega arith)
  split (y ∷ ys) zero k i = ap (λ z. z ∷ ys) (sym i)
  split (y ∷ ys) (suc m) k i = split ys m (omega arith) i

-- the branches of a chain that was opened at its next link
pub opened_next : (t : TermTree) (link : LinkTree) (is : Truth) (before : List (Vec Test Global)) (found : Option (Vec (Vec Test Global) Global)) (more made : Vec (Vec Test Global) Global) → made ≡ more → found ≡ Some more → IfSome found (λ branches. (tree : TermTree) → Stand tree is before → Stand (link_on tree link) is branches.items) → Stand t is before → Stand (link_on t link) is made.items
opened_next t link is before found more made m e h b =
    let There : Option (Vec (Vec Test Global) Global) → Type 0 = λ o. IfSome o (λ branches. (tree : TermTree) → Stand tree is before → Stand (link_on tree link) is branches.items) in
    let Here : Vec (Vec Test Global) Global → Type 0 = λ v. Stand (link_on t link) is v.items in
    let there : There (Some more) = subst There e h in
    subst Here (sym m) (there t b)

pub made_along : (t : TermTree) (is : Truth) (made branches : Vec (Vec Test Global) Global) → made ≡ branches → Stand t is branches.items → Stand t is made.items
made_along t is made branches m stand =
    let Here : Vec (Vec Test Global) Global → Type 0 = λ v. Stand t is v.items in
    subst Here (sym m) stand

-- a term by its last link
pub whole_links : (term : Term) (links before : List Link) (link : Link) → links ≡ term.links.items → links ≡ before ++ link ∷ [] → link_on (linked (operand_tree term.first) (map link_tree before)) (link_tree link) ≡ term_tree term
whole_links term links before link e h =
    sym (linked_more (operand_tree term.first) (map link_tree before) (link_tree link))
    ∙ ap (linked (operand_tree term.first)) (sym (map_more link_tree before link))
    ∙ ap (λ ls. linked (operand_tree term.first) (map link_tree ls)) (sym h ∙ e)
    ∙ sym (opened term)
