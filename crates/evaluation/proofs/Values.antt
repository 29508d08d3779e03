-- Values of terms by their parts.
use Rattle.std.proofs.Common.{◌≡◌, ℕ, ◌+◌, ◌<◌, suc, List, ◌∷◌, map, drop, length, get_or, ap, sym, ◌∙◌, arith, Result, Ok, Err, IfOk}
use Rattle.std.proofs.Math.Seq.{drop-cons}
use Rattle.terms.specs.Datum.{Datum}
use Rattle.terms.specs.Linked.{opened, value_linked, value_on, values_on}
use Rattle.terms.specs.Meaning.{Scope, value}
use Rattle.evaluation.specs.Seen.{seen}
use Rattle.evaluation.specs.declared.seen.Seen.{Seen}
use Rattle.terms.specs.TermTree.{term_tree, operand_tree, link_tree}
use Rattle.terms.specs.declared.term.Term.{Term}
use Rattle.terms.specs.declared.term.Link.{Link}

-- the value that links make of the first one is that of the term
pub value_by : {E : Type 0} (term : Term) (links : List Link) (scope : Scope) (cells : List Datum) (first : Datum) (found : Result Seen E) → links ≡ term.links.items → first ≡ value (operand_tree term.first) scope cells → IfOk found (λ v. seen v ≡ values_on (map link_tree links) scope cells first) → IfOk found (λ v. seen v ≡ value (term_tree term) scope cells)
value_by term links scope cells first (Err e) p h k = k
value_by term links scope cells first (Ok v) p h k =
    k ∙ (λ i. values_on (map link_tree (p i)) scope cells (h i))
    ∙ sym (value_linked (operand_tree term.first) (map link_tree term.links.items) scope cells)
    ∙ sym (ap (λ t. value t scope cells) (opened term))

-- the links behind one make the same of what it made
pub one_more : (links : List Link) (i : ℕ) (link : Link) (scope : Scope) (cells : List Datum) (before made all : Datum) → link ≡ get_or links i link → i < length links → made ≡ value_on (link_tree link) scope cells before → values_on (map link_tree (drop i links)) scope cells before ≡ all → values_on (map link_tree (drop (i + 1) links)) scope cells made ≡ all
one_more links i link scope cells before made all is low h k =
    let next : suc i ≡ i + 1 = omega arith in
    let split : drop i links ≡ link ∷ drop (i + 1) links =
    drop-cons links i link low ∙ ap (λ y. y ∷ drop (suc i) links) (sym is) ∙ ap (λ n. link ∷ drop n links) next in
    ap (values_on (map link_tree (drop (i + 1) links)) scope cells) h
    ∙ sym (ap (λ ls. values_on (map link_tree ls) scope cells before) split)
    ∙ k
