-- Whether a term mentions a parameter of the action. A term has one value for all arguments that differ only at one that it does not mention.
use Rattle.std.specs.Prelude.{◌≡◌, ℕ, nat_eq, pos, neg_ℤ, Bool as Truth, true, false, not, ◌||◌, List, [], ◌∷◌, drop, get_or, length, map, replicate, refl}
use Rattle.std.proofs.Common.{ap, sym, ◌∙◌, true≢false, arith}
use Rattle.std.proofs.lemmas.Bool.{or_parts}
use Rattle.std.proofs.lemmas.Bool.Decides.{nat_tests}
use Rattle.terms.specs.Datum.{Datum, Just, pack, items_of, scalar_of}
use Rattle.terms.specs.Linked.{opened}
use Rattle.terms.specs.Meaning.{Scope, value, truth, number, slot, combined, appended}
use Rattle.terms.specs.Shapes.{whole, rest, nearest, place, default}
use Rattle.terms.specs.TermTree.{TermTree, LinkTree, linked, link_on, term_tree, operand_tree, link_tree}
use Rattle.terms.specs.TermTree as term
use Rattle.terms.specs.declared.scalar.Scalar.{Scalar}
use Rattle.terms.specs.declared.scalar.Scalar.TheVariants.{Int, Bool}
use Rattle.terms.specs.declared.term.Link.{Link}
use Rattle.terms.specs.declared.term.Term.{Term}

-- parameter p of the action stands somewhere in the term
abbrev pub mentions : ℕ → TermTree → Truth
mentions p (term.Known scalar) = false
mentions p (term.Formal n) = false
mentions p (term.Parameter n) = nat_eq n p
mentions p (term.Loop n) = false
mentions p (term.Cell n) = false
mentions p (term.Not a) = mentions p a
mentions p (term.Negative a) = mentions p a
mentions p (term.Modulo a k) = mentions p a
mentions p (term.Nearest a low high) = mentions p a
mentions p (term.Binary operator a b) = mentions p a || mentions p b
mentions p (term.Length a) = mentions p a
mentions p (term.Head a item) = mentions p a
mentions p (term.Tail a) = mentions p a
mentions p (term.Append a b room) = mentions p a || mentions p b
mentions p (term.Index a at index) = mentions p a || mentions p at
mentions p term.Empty = false
mentions p (term.Fill count a) = mentions p a

abbrev pub link_mentions : ℕ → LinkTree → Truth
link_mentions p (term.On operator right) = mentions p right
link_mentions p (term.Remainder divisor) = false

abbrev pub links_mention : ℕ → List LinkTree → Truth
links_mention p [] = false
links_mention p (link ∷ links) = link_mentions p link || links_mention p links

or_false : (a : Truth) → a || false ≡ a
or_false true = refl
or_false false = refl

or_assoc : (a b c : Truth) → (a || b) || c ≡ a || (b || c)
or_assoc true b c = refl
or_assoc false b c = refl

on_link : (p : ℕ) (t : TermTree) (link : LinkTree) → mentions p (link_on t link) ≡ mentions p t || link_mentions p link
on_link p t (term.On operator right) = refl
on_link p t (term.Remainder divisor) = sym (or_false (mentions p t))

on_links : (p : ℕ) (t : TermTree) (links : List LinkTree) → mentions p (linked t links) ≡ mentions p t || links_mention p links
on_links p t [] = sym (or_false (mentions p t))
on_links p t (link ∷ links) =
    on_links p (link_on t link) links
    ∙ ap (λ m. m || links_mention p links) (on_link p t link)
    ∙ or_assoc (mentions p t) (link_mentions p link) (links_mention p links)

-- a term mentions what its operand and its links mention
pub mentions_by : (p : ℕ) (t : Term) (links : List Link) (first others : Truth) → links ≡ t.links.items → first ≡ mentions p (operand_tree t.first) → others ≡ links_mention p (map link_tree links) → first || others ≡ mentions p (term_tree t)
mentions_by p t links first others e h k =
    (λ i. h i || k i)
    ∙ ap (λ ls. mentions p (operand_tree t.first) || links_mention p (map link_tree ls)) e
    ∙ sym (on_links p (operand_tree t.first) (map link_tree t.links.items))
    ∙ sym (ap (mentions p) (opened t))

other_number : (n p : ℕ) → nat_eq n p ≡ false → n ≡ p → ⊥
other_number n p h e = let same : nat_eq n p ≡ true = grind (arith, nat_tests) in true≢false (sym same ∙ h)

-- a term that does not mention parameter p has one value for all arguments that agree elsewhere
pub same_without : (t : TermTree) (scope : Scope) (cells : List Datum) (args others : List Scalar) (p : ℕ) → mentions p t ≡ false → ((n : ℕ) → (n ≡ p → ⊥) → slot args n ≡ slot others n) → value t (record scope { parameters = args }) cells ≡ value t (record scope { parameters = others }) cells
same_without (term.Known scalar) scope cells args others p h e = refl
same_without (term.Formal n) scope cells args others p h e = refl
same_without (term.Parameter n) scope cells args others p h e = ap Just (e n (other_number n p h))
same_without (term.Loop n) scope cells args others p h e = refl
same_without (term.Cell n) scope cells args others p h e = refl
same_without (term.Not a) scope cells args others p h e = ap (λ v. Just (Bool (not (truth v)))) (same_without a scope cells args others p h e)
same_without (term.Negative a) scope cells args others p h e = ap (λ v. Just (Int (whole (neg_ℤ (number v))))) (same_without a scope cells args others p h e)
same_without (term.Modulo a k) scope cells args others p h e = ap (λ v. Just (Int (rest (number v) k))) (same_without a scope cells args others p h e)
same_without (term.Nearest a low high) scope cells args others p h e = ap (λ v. Just (Int (nearest low high (number v)))) (same_without a scope cells args others p h e)
same_without (term.Binary operator a b) scope cells args others p h e =
    let parts = or_parts (mentions p a) (mentions p b) h in
    let left = same_without a scope cells args others p parts.0 e in
    let right = same_without b scope cells args others p parts.1 e in
    λ i. Just (combined operator (left i) (right i))
same_without (term.Length a) scope cells args others p h e = ap (λ v. Just (Int (pos (length (items_of v))))) (same_without a scope cells args others p h e)
same_without (term.Head a item) scope cells args others p h e = ap (λ v. get_or (items_of v) 0 (default item)) (same_without a scope cells args others p h e)
same_without (term.Tail a) scope cells args others p h e = ap (λ v. pack (drop 1 (items_of v))) (same_without a scope cells args others p h e)
same_without (term.Append a b room) scope cells args others p h e =
    let parts = or_parts (mentions p a) (mentions p b) h in
    let left = same_without a scope cells args others p parts.0 e in
    let right = same_without b scope cells args others p parts.1 e in
    λ i. appended room (left i) (right i)
same_without (term.Index a at index) scope cells args others p h e =
    let parts = or_parts (mentions p a) (mentions p at) h in
    let left = same_without a scope cells args others p parts.0 e in
    let right = same_without at scope cells args others p parts.1 e in
    λ i. get_or (items_of (left i)) (place index (scalar_of (right i))) (Just (Int (pos 0)))
same_without term.Empty scope cells args others p h e = refl
same_without (term.Fill count a) scope cells args others p h e = ap (λ v. pack (replicate count v)) (same_without a scope cells args others p h e)
