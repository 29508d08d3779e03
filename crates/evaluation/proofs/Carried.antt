-- What turns do to a cell that each of them makes of itself.
use Rattle.std.specs.Prelude.{slice_get, slice_set, IfSome}
use Rattle.std.proofs.Common.{◌≡◌, ◌≢◌, true, not, nat_eq, ℕ, zero, suc, ◌<◌, ℤ, List, [], ◌∷◌, length, map, Option, None, Some, refl, sym, ◌∙◌, ap, inl, arith}
use Rattle.std.proofs.lemmas.Bool.{eqb-false, not-true}
use Rattle.std.proofs.lemmas.Option.{get_or_from_slice_get, slice_get_within}
use Rattle.terms.specs.Datum.{Datum, Just}
use Rattle.terms.specs.Linked.{opened, value_linked, value_on, values_on}
use Rattle.terms.specs.Meaning.{Scope, value, cell, combined, each, turn, with_loop, AreParts, IsPartOfTurn}
use Rattle.terms.specs.EffectTree.{Assign}
use Rattle.terms.specs.TermTree.{TermTree, LinkTree, On, Cell, link_step, operand_step, term_step, term_tree, operand_tree, link_tree}
use Rattle.terms.specs.Turns.{set_twice}
use Rattle.terms.specs.declared.scalar.Scalar.{Scalar}
use Rattle.terms.specs.declared.scalar.Scalar.TheVariants.{Int}
use Rattle.terms.specs.declared.term.Operator.{Operator}
use Rattle.terms.specs.declared.term.Term.{Term}
use Rattle.terms.specs.declared.term.Operand.{Operand}
use Rattle.terms.specs.declared.term.Link.{Link}
use Rattle.terms.specs.declared.term.Link.TheOpen as code
use Rattle.terms.specs.declared.term.Link.TheViews as made
use Rattle.terms.specs.declared.term.Link.TheFolds.{fold-roll-Operand}
use Rattle.evaluation.specs.Turning.{IsApart, IsLinkApart, AreApart, carried}

-- a cell is what was written there
cell_set : (cells : List Datum) (n : ℕ) (d : Datum) → n < length cells → cell (slice_set cells n d) n ≡ d
cell_set [] n d h = absurd (omega arith)
cell_set (x ∷ xs) zero d h = refl
cell_set (x ∷ xs) (suc n) d h = cell_set xs n d (omega arith)

-- and all others are as they were
cell_other : (cells : List Datum) (n m : ℕ) (d : Datum) → m ≢ n → cell (slice_set cells n d) m ≡ cell cells m
cell_other [] n m d h = refl
cell_other (x ∷ xs) zero zero d h = absurd (h refl)
cell_other (x ∷ xs) zero (suc m) d h = refl
cell_other (x ∷ xs) (suc n) zero d h = refl
cell_other (x ∷ xs) (suc n) (suc m) d h = cell_other xs n m d (λ e. h (ap suc e))

-- what stands in a cell already may be written there
set_same : (cells : List Datum) (n : ℕ) (d : Datum) → slice_get cells n ≡ Some d → cells ≡ slice_set cells n d
set_same [] n d h = refl
set_same (x ∷ xs) zero d h = ap (λ y. y ∷ xs) (get_or_from_slice_get (x ∷ xs) 0 d x h)
set_same (x ∷ xs) (suc n) d h = ap (λ ys. x ∷ ys) (set_same xs n d h)

pub apart_cell : (operand : Operand) (n m : ℕ) → operand ≡ made.made-Cell m → not (nat_eq m n) ≡ true → IsApart n (operand_tree operand)
apart_cell operand n m e h scope cells new =
    let told : operand_tree operand ≡ Cell m =
    ap operand_tree (e ∙ sym (made.rolls-Cell m)) ∙ fold-roll-Operand LinkTree TermTree TermTree link_step operand_step term_step (code.Cell m) in
    ap (λ t. value t scope (slice_set cells n new)) told
    ∙ cell_other cells n m new (eqb-false m n (not-true (nat_eq m n) h))
    ∙ sym (ap (λ t. value t scope cells) told)

pub apart_on : (n : ℕ) (operator : Operator) (right : TermTree) → IsApart n right → IsLinkApart n (On operator right)
apart_on n operator right h scope cells new left = ap (λ v. Just (combined operator left v)) (h scope cells new)

pub apart_more : (n : ℕ) (link : LinkTree) (links : List LinkTree) → IsLinkApart n link → AreApart n links → AreApart n (link ∷ links)
apart_more n link links h k scope cells new left =
    ap (values_on links scope (slice_set cells n new)) (h scope cells new left)
    ∙ k scope cells new (value_on link scope cells left)

-- the value of a term by its parts
term_is : (term : Term) (links : List Link) → links ≡ term.links.items → (scope : Scope) (cells : List Datum) → value (term_tree term) scope cells ≡ values_on (map link_tree links) scope cells (value (operand_tree term.first) scope cells)
term_is term links e scope cells =
    ap (λ t. value t scope cells) (opened term)
    ∙ value_linked (operand_tree term.first) (map link_tree term.links.items) scope cells
    ∙ sym (ap (λ ls. values_on (map link_tree ls) scope cells (value (operand_tree term.first) scope cells)) e)

-- a term is apart from a cell where its parts are
pub apart_by : (term : Term) (links : List Link) (n : ℕ) → links ≡ term.links.items → IsApart n (operand_tree term.first) → AreApart n (map link_tree links) → IsApart n (term_tree term)
apart_by term links n e h k scope cells new =
    term_is term links e scope (slice_set cells n new)
    ∙ ap (values_on (map link_tree links) scope (slice_set cells n new)) (h scope cells new)
    ∙ k scope cells new (value (operand_tree term.first) scope cells)
    ∙ sym (term_is term links e scope cells)

each_carried : (slot n : ℕ) (term : TermTree) (links : List LinkTree) (scope : Scope) (cells : List Datum) → AreApart n links → ((s : Scope) (ds : List Datum) → value term s ds ≡ values_on links s ds (cell ds n)) → n < length cells → (members : List Scalar) (d : Datum) → each (turn slot (Assign n term) scope) members (slice_set cells n d) ≡ slice_set cells n (carried slot links scope cells members d)
each_carried slot n term links scope cells apart law short [] d = refl
each_carried slot n term links scope cells apart law short (member ∷ members) d =
    let inner = with_loop slot member scope in
    let before = slice_set cells n d in
    let made = values_on links inner cells d in
    let told : value term inner before ≡ made =
    law inner before ∙ ap (values_on links inner before) (cell_set cells n d short) ∙ apart inner cells d d in
    ap (λ v. each (turn slot (Assign n term) scope) members (slice_set before n v)) told
    ∙ ap (each (turn slot (Assign n term) scope) members) (set_twice cells n d made)
    ∙ each_carried slot n term links scope cells apart law short members made

-- the turns leave the number that was carried
pub carried_by : (term : Term) (links : List Link) (slot n : ℕ) (scope : Scope) (cells : List Datum) (members : List Scalar) (first : ℤ) (found : Option ℤ) → links ≡ term.links.items → operand_tree term.first ≡ Cell n → slice_get cells n ≡ Some (Just (Int first)) → AreApart n (map link_tree links) → IfSome found (λ k. carried slot (map link_tree links) scope cells members (Just (Int first)) ≡ Just (Int k)) → IfSome found (λ k. each (turn slot (Assign n (term_tree term)) scope) members cells ≡ slice_set cells n (Just (Int k)))
carried_by term links slot n scope cells members first None e is at apart h = h
carried_by term links slot n scope cells members first (Some k) e is at apart h =
    let law : (s : Scope) (ds : List Datum) → value (term_tree term) s ds ≡ values_on (map link_tree links) s ds (cell ds n) =
    λ s ds. term_is term links e s ds ∙ ap (λ t. values_on (map link_tree links) s ds (value t s ds)) is in
    let short = slice_get_within cells n (Just (Int first)) at in
    ap (each (turn slot (Assign n (term_tree term)) scope) members) (set_same cells n (Just (Int first)) at)
    ∙ each_carried slot n (term_tree term) (map link_tree links) scope cells apart law short members (Just (Int first))
    ∙ ap (slice_set cells n) h

-- a state as it was is one that no turn has reached
pub no_turn : (slot n : ℕ) (term : TermTree) (scope : Scope) (members : List Scalar) (cells new : List Datum) → new ≡ cells → AreParts (turn slot (Assign n term) scope) (IsPartOfTurn slot (Assign n term) scope) members cells new
no_turn slot n term scope [] cells new h = h
no_turn slot n term scope (member ∷ members) cells new h = inl h
