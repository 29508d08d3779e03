-- Whether a term mentions a parameter of the action. One that mentions none has one value for all arguments.
use Rattle.std.specs.Prelude.{◌≡◌, pos, neg_ℤ, Bool as Truth, true, false, not, ◌||◌, List, [], ◌∷◌, drop, get_or, length, map, replicate, refl}
use Rattle.std.proofs.Common.{ap, sym, ◌∙◌, true≢false}
use Rattle.terms.specs.Datum.{Datum, Just, pack, items_of, scalar_of}
use Rattle.terms.specs.Linked.{opened}
use Rattle.terms.specs.Meaning.{Scope, value, truth, number, combined, appended}
use Rattle.terms.specs.Shapes.{whole, rest, nearest, place, default}
use Rattle.terms.specs.TermTree.{TermTree, LinkTree, linked, link_on, term_tree, operand_tree, link_tree}
use Rattle.terms.specs.TermTree as term
use Rattle.terms.specs.declared.scalar.Scalar.{Scalar}
use Rattle.terms.specs.declared.scalar.Scalar.TheVariants.{Int, Bool}
use Rattle.terms.specs.declared.term.Link.{Link}
use Rattle.terms.specs.declared.term.Term.{Term}

-- a parameter of the action stands somewhere in the term
abbrev pub mentions_parameter : TermTree → Truth
mentions_parameter (term.Known scalar) = false
mentions_parameter (term.Formal n) = false
mentions_parameter (term.Parameter n) = true
mentions_parameter (term.Loop n) = false
mentions_parameter (term.Cell n) = false
mentions_parameter (term.Not a) = mentions_parameter a
mentions_parameter (term.Negative a) = mentions_parameter a
mentions_parameter (term.Modulo a k) = mentions_parameter a
mentions_parameter (term.Nearest a low high) = mentions_parameter a
mentions_parameter (term.Binary operator a b) = mentions_parameter a || mentions_parameter b
mentions_parameter (term.Length a) = mentions_parameter a
mentions_parameter (term.Head a item) = mentions_parameter a
mentions_parameter (term.Tail a) = mentions_parameter a
mentions_parameter (term.Append a b room) = mentions_parameter a || mentions_parameter b
mentions_parameter (term.Index a at index) = mentions_parameter a || mentions_parameter at
mentions_parameter term.Empty = false
mentions_parameter (term.Fill count a) = mentions_parameter a

abbrev pub link_mentions : LinkTree → Truth
link_mentions (term.On operator right) = mentions_parameter right
link_mentions (term.Remainder divisor) = false

abbrev pub links_mention : List LinkTree → Truth
links_mention [] = false
links_mention (link ∷ links) = link_mentions link || links_mention links

or_false : (a : Truth) → a || false ≡ a
or_false true = refl
or_false false = refl

assoc : (a b c : Truth) → (a || b) || c ≡ a || (b || c)
assoc true b c = refl
assoc false b c = refl

first_false : (a b : Truth) → a || b ≡ false → a ≡ false
first_false true b h = h
first_false false b h = refl

second_false : (a b : Truth) → a || b ≡ false → b ≡ false
second_false true b h = absurd (true≢false h)
second_false false b h = h

on_link : (t : TermTree) (link : LinkTree) → mentions_parameter (link_on t link) ≡ mentions_parameter t || link_mentions link
on_link t (term.On operator right) = refl
on_link t (term.Remainder divisor) = sym (or_false (mentions_parameter t))

on_links : (t : TermTree) (links : List LinkTree) → mentions_parameter (linked t links) ≡ mentions_parameter t || links_mention links
on_links t [] = sym (or_false (mentions_parameter t))
on_links t (link ∷ links) =
    on_links (link_on t link) links
    ∙ ap (λ m. m || links_mention links) (on_link t link)
    ∙ assoc (mentions_parameter t) (link_mentions link) (links_mention links)

-- a term mentions what its operand and its links mention
pub mentions_by : (term : Term) (links : List Link) (first others : Truth) → links ≡ term.links.items → first ≡ mentions_parameter (operand_tree term.first) → others ≡ links_mention (map link_tree links) → first || others ≡ mentions_parameter (term_tree term)
mentions_by term links first others e h k =
    (λ i. h i || k i)
    ∙ ap (λ ls. mentions_parameter (operand_tree term.first) || links_mention (map link_tree ls)) e
    ∙ sym (on_links (operand_tree term.first) (map link_tree term.links.items))
    ∙ sym (ap mentions_parameter (opened term))

-- a term that mentions no parameter has one value, whatever the arguments are
pub same_for_all : (t : TermTree) (scope : Scope) (cells : List Datum) (args others : List Scalar) → mentions_parameter t ≡ false → value t (record scope { parameters = args }) cells ≡ value t (record scope { parameters = others }) cells
same_for_all (term.Known scalar) scope cells args others h = refl
same_for_all (term.Formal n) scope cells args others h = refl
same_for_all (term.Parameter n) scope cells args others h = absurd (true≢false h)
same_for_all (term.Loop n) scope cells args others h = refl
same_for_all (term.Cell n) scope cells args others h = refl
same_for_all (term.Not a) scope cells args others h = ap (λ v. Just (Bool (not (truth v)))) (same_for_all a scope cells args others h)
same_for_all (term.Negative a) scope cells args others h = ap (λ v. Just (Int (whole (neg_ℤ (number v))))) (same_for_all a scope cells args others h)
same_for_all (term.Modulo a k) scope cells args others h = ap (λ v. Just (Int (rest (number v) k))) (same_for_all a scope cells args others h)
same_for_all (term.Nearest a low high) scope cells args others h = ap (λ v. Just (Int (nearest low high (number v)))) (same_for_all a scope cells args others h)
same_for_all (term.Binary operator a b) scope cells args others h =
    let left = same_for_all a scope cells args others (first_false (mentions_parameter a) (mentions_parameter b) h) in
    let right = same_for_all b scope cells args others (second_false (mentions_parameter a) (mentions_parameter b) h) in
    λ i. Just (combined operator (left i) (right i))
same_for_all (term.Length a) scope cells args others h = ap (λ v. Just (Int (pos (length (items_of v))))) (same_for_all a scope cells args others h)
same_for_all (term.Head a item) scope cells args others h = ap (λ v. get_or (items_of v) 0 (default item)) (same_for_all a scope cells args others h)
same_for_all (term.Tail a) scope cells args others h = ap (λ v. pack (drop 1 (items_of v))) (same_for_all a scope cells args others h)
same_for_all (term.Append a b room) scope cells args others h =
    let left = same_for_all a scope cells args others (first_false (mentions_parameter a) (mentions_parameter b) h) in
    let right = same_for_all b scope cells args others (second_false (mentions_parameter a) (mentions_parameter b) h) in
    λ i. appended room (left i) (right i)
same_for_all (term.Index a at index) scope cells args others h =
    let left = same_for_all a scope cells args others (first_false (mentions_parameter a) (mentions_parameter at) h) in
    let right = same_for_all at scope cells args others (second_false (mentions_parameter a) (mentions_parameter at) h) in
    λ i. get_or (items_of (left i)) (place index (scalar_of (right i))) (Just (Int (pos 0)))
same_for_all term.Empty scope cells args others h = refl
same_for_all (term.Fill count a) scope cells args others h = ap (λ v. pack (replicate count v)) (same_for_all a scope cells args others h)
