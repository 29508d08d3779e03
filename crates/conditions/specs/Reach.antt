-- The highest parameter of the action that a term mentions. A term has one value for all arguments whose first ones, up to there, are the same.
use Rattle.std.specs.Prelude.{◌≡◌, ℕ, zero, suc, ◌≤◌, ◌<◌, max, pos, neg_ℤ, not, List, [], ◌∷◌, take, drop, get_or, length, map, replicate, refl}
use Rattle.std.proofs.Common.{ap, sym, ◌∙◌, arith}
use Rattle.std.proofs.Math.Nat.{le-max_left, le-max_right}
use Rattle.terms.specs.Datum.{Datum, Just, pack, items_of, scalar_of}
use Rattle.terms.specs.Linked.{opened}
use Rattle.terms.specs.Meaning.{Scope, value, truth, number, slot, combined, appended}
use Rattle.terms.specs.Shapes.{whole, rest, nearest, place, default}
use Rattle.terms.specs.TermTree.{TermTree, LinkTree, linked, link_on, term_tree, operand_tree, link_tree}
use Rattle.terms.specs.TermTree as term
use Rattle.terms.specs.declared.scalar.Scalar.{Scalar}
use Rattle.terms.specs.declared.scalar.Scalar.TheVariants.{Int, Bool}
use Rattle.terms.specs.declared.term.Link.{Link}
use Rattle.terms.specs.declared.term.Term.{Term}

-- the number of the highest parameter that a term mentions plus 1; 0 if it mentions none
abbrev pub reach : TermTree → ℕ
reach (term.Known scalar) = zero
reach (term.Formal n) = zero
reach (term.Parameter n) = suc n
reach (term.Loop n) = zero
reach (term.Cell n) = zero
reach (term.Not a) = reach a
reach (term.Negative a) = reach a
reach (term.Modulo a k) = reach a
reach (term.Nearest a low high) = reach a
reach (term.Binary operator a b) = max (reach a) (reach b)
reach (term.Length a) = reach a
reach (term.Head a item) = reach a
reach (term.Tail a) = reach a
reach (term.Append a b room) = max (reach a) (reach b)
reach (term.Index a at index) = max (reach a) (reach at)
reach term.Empty = zero
reach (term.Fill count a) = reach a

abbrev pub link_reach : LinkTree → ℕ
link_reach (term.On operator right) = reach right
link_reach (term.Remainder divisor) = zero

abbrev pub links_reach : List LinkTree → ℕ
links_reach [] = zero
links_reach (link ∷ links) = max (link_reach link) (links_reach links)

max_zero : (a : ℕ) → max a zero ≡ a
max_zero a = omega arith

max_assoc : (a b c : ℕ) → max (max a b) c ≡ max a (max b c)
max_assoc a b c = omega arith

on_link : (t : TermTree) (link : LinkTree) → reach (link_on t link) ≡ max (reach t) (link_reach link)
on_link t (term.On operator right) = refl
on_link t (term.Remainder divisor) = sym (max_zero (reach t))

-- a term with links reaches as far as it or one of them
pub on_links : (t : TermTree) (links : List LinkTree) → reach (linked t links) ≡ max (reach t) (links_reach links)
on_links t [] = sym (max_zero (reach t))
on_links t (link ∷ links) =
    on_links (link_on t link) links
    ∙ ap (λ m. max m (links_reach links)) (on_link t link)
    ∙ max_assoc (reach t) (link_reach link) (links_reach links)

first_within : (a b k : ℕ) → max a b ≤ k → a ≤ k
first_within a b k h = let l = le-max_left a b in omega arith

second_within : (a b k : ℕ) → max a b ≤ k → b ≤ k
second_within a b k h = let l = le-max_right a b in omega arith

slot_taken : (args : List Scalar) (n k : ℕ) → n < k → slot args n ≡ slot (take k args) n
slot_taken args n zero h = absurd (omega arith)
slot_taken [] n (suc k) h = refl
slot_taken (arg ∷ args) zero (suc k) h = refl
slot_taken (arg ∷ args) (suc n) (suc k) h = slot_taken args n k (omega arith)

-- a parameter below k has one value for all arguments with the same first k
slot_same : (args others : List Scalar) (n k : ℕ) → suc n ≤ k → take k args ≡ take k others → slot args n ≡ slot others n
slot_same args others n k h e =
    slot_taken args n k (omega arith)
    ∙ ap (λ list. slot list n) e
    ∙ sym (slot_taken others n k (omega arith))

-- a term that reaches no parameter beyond the first k has one value for all arguments with the same first k
pub same_within : (t : TermTree) (scope : Scope) (cells : List Datum) (args others : List Scalar) (k : ℕ) → reach t ≤ k → take k args ≡ take k others → value t (record scope { parameters = args }) cells ≡ value t (record scope { parameters = others }) cells
same_within (term.Known scalar) scope cells args others k h e = refl
same_within (term.Formal n) scope cells args others k h e = refl
same_within (term.Parameter n) scope cells args others k h e = ap Just (slot_same args others n k h e)
same_within (term.Loop n) scope cells args others k h e = refl
same_within (term.Cell n) scope cells args others k h e = refl
same_within (term.Not a) scope cells args others k h e = ap (λ v. Just (Bool (not (truth v)))) (same_within a scope cells args others k h e)
same_within (term.Negative a) scope cells args others k h e = ap (λ v. Just (Int (whole (neg_ℤ (number v))))) (same_within a scope cells args others k h e)
same_within (term.Modulo a m) scope cells args others k h e = ap (λ v. Just (Int (rest (number v) m))) (same_within a scope cells args others k h e)
same_within (term.Nearest a low high) scope cells args others k h e = ap (λ v. Just (Int (nearest low high (number v)))) (same_within a scope cells args others k h e)
same_within (term.Binary operator a b) scope cells args others k h e =
    let left = same_within a scope cells args others k (first_within (reach a) (reach b) k h) e in
    let right = same_within b scope cells args others k (second_within (reach a) (reach b) k h) e in
    λ i. Just (combined operator (left i) (right i))
same_within (term.Length a) scope cells args others k h e = ap (λ v. Just (Int (pos (length (items_of v))))) (same_within a scope cells args others k h e)
same_within (term.Head a item) scope cells args others k h e = ap (λ v. get_or (items_of v) 0 (default item)) (same_within a scope cells args others k h e)
same_within (term.Tail a) scope cells args others k h e = ap (λ v. pack (drop 1 (items_of v))) (same_within a scope cells args others k h e)
same_within (term.Append a b room) scope cells args others k h e =
    let left = same_within a scope cells args others k (first_within (reach a) (reach b) k h) e in
    let right = same_within b scope cells args others k (second_within (reach a) (reach b) k h) e in
    λ i. appended room (left i) (right i)
same_within (term.Index a at index) scope cells args others k h e =
    let left = same_within a scope cells args others k (first_within (reach a) (reach at) k h) e in
    let right = same_within at scope cells args others k (second_within (reach a) (reach at) k h) e in
    λ i. get_or (items_of (left i)) (place index (scalar_of (right i))) (Just (Int (pos 0)))
same_within term.Empty scope cells args others k h e = refl
same_within (term.Fill count a) scope cells args others k h e = ap (λ v. pack (replicate count v)) (same_within a scope cells args others k h e)

-- a term reaches as far as its operand or one of its links
pub reach_by : (t : Term) (links : List Link) (first others : ℕ) → links ≡ t.links.items → first ≡ reach (operand_tree t.first) → others ≡ links_reach (map link_tree links) → max first others ≡ reach (term_tree t)
reach_by t links first others e h k =
    (λ i. max (h i) (k i))
    ∙ ap (λ ls. max (reach (operand_tree t.first)) (links_reach (map link_tree ls))) e
    ∙ sym (on_links (operand_tree t.first) (map link_tree t.links.items))
    ∙ sym (ap reach (opened t))
