-- Whether terms and effects of the code are the same, by their parts.
use Rattle.std.proofs.Common.{◌≡◌, Bool as Truth, true, false, ◌&&◌, List, [], ◌∷◌, suc, map, length, refl, ap, sym, ◌∙◌}
use Rattle.terms.specs.Linked.{opened, effect_opened}
use Rattle.terms.specs.SameTrees.{same_term, same_links, spine, same_effect, same_parts, tail}
use Rattle.terms.specs.SameTreeLaws.{linked_same, links_long, ended_same, parts_long, not_true}
use Rattle.terms.specs.TermTree.{term_tree, operand_tree, link_tree}
use Rattle.terms.specs.EffectTree.{effect_tree, last_tree, part_tree}
use Rattle.terms.specs.declared.term.Term.{Term}
use Rattle.terms.specs.declared.term.Link.{Link}
use Rattle.terms.specs.declared.effect.Effect.{Effect}
use Rattle.terms.specs.declared.effect.Part.{Part}

map_length : {A B : Type 0} (f : A → B) (xs : List A) → length (map f xs) ≡ length xs
map_length f [] = refl
map_length f (x ∷ xs) = ap suc (map_length f xs)

pub links_apart : (xs ys : List Link) → (length xs ≡ length ys → ⊥) → false ≡ same_links (map link_tree xs) (map link_tree ys)
links_apart xs ys h =
    sym (not_true (same_links (map link_tree xs) (map link_tree ys)) (λ s. h (sym (map_length link_tree xs) ∙ links_long (map link_tree xs) (map link_tree ys) s ∙ map_length link_tree ys)))

by_parts : (a b : Term) → spine (operand_tree a.first) ≡ 0 → spine (operand_tree b.first) ≡ 0 → same_term (term_tree a) (term_tree b) ≡ same_term (operand_tree a.first) (operand_tree b.first) && same_links (map link_tree a.links.items) (map link_tree b.links.items)
by_parts a b h k =
    (λ i. same_term (opened a i) (opened b i))
    ∙ linked_same (operand_tree a.first) (operand_tree b.first) h k (map link_tree a.links.items) (map link_tree b.links.items)

-- they begin alike, so the links decide
pub goes_on : (a b : Term) (xs ys : List Link) (first links : Truth) → first ≡ same_term (operand_tree a.first) (operand_tree b.first) → spine (operand_tree a.first) ≡ 0 → spine (operand_tree b.first) ≡ 0 → first ≡ true → xs ≡ a.links.items → ys ≡ b.links.items → links ≡ same_links (map link_tree xs) (map link_tree ys) → links ≡ same_term (term_tree a) (term_tree b)
goes_on a b xs ys first links e h k t p q l =
    l ∙ (λ i. same_links (map link_tree (p i)) (map link_tree (q i)))
    ∙ ap (λ x. x && same_links (map link_tree a.links.items) (map link_tree b.links.items)) (sym t ∙ e)
    ∙ sym (by_parts a b h k)

-- they don't begin alike
pub begins_apart : (a b : Term) (first : Truth) → first ≡ same_term (operand_tree a.first) (operand_tree b.first) → spine (operand_tree a.first) ≡ 0 → spine (operand_tree b.first) ≡ 0 → first ≡ false → first ≡ same_term (term_tree a) (term_tree b)
begins_apart a b first e h k f =
    f ∙ ap (λ x. x && same_links (map link_tree a.links.items) (map link_tree b.links.items)) (sym f ∙ e)
    ∙ sym (by_parts a b h k)

pub parts_apart : (xs ys : List Part) → (length xs ≡ length ys → ⊥) → false ≡ same_parts (map part_tree xs) (map part_tree ys)
parts_apart xs ys h =
    sym (not_true (same_parts (map part_tree xs) (map part_tree ys)) (λ s. h (sym (map_length part_tree xs) ∙ parts_long (map part_tree xs) (map part_tree ys) s ∙ map_length part_tree ys)))

by_ends : (a b : Effect) → tail (last_tree a.last) ≡ 0 → tail (last_tree b.last) ≡ 0 → same_effect (effect_tree a) (effect_tree b) ≡ same_parts (map part_tree a.parts.items) (map part_tree b.parts.items) && same_effect (last_tree a.last) (last_tree b.last)
by_ends a b h k =
    (λ i. same_effect (effect_opened a i) (effect_opened b i))
    ∙ ended_same (map part_tree a.parts.items) (map part_tree b.parts.items) (last_tree a.last) (last_tree b.last) h k

and_true : (a : Truth) → a && true ≡ a
and_true true = refl
and_true false = refl

and_false : (a : Truth) → a && false ≡ false
and_false true = refl
and_false false = refl

-- they end alike, so the parts decide
pub comes_to : (a b : Effect) (xs ys : List Part) (last parts : Truth) → last ≡ same_effect (last_tree a.last) (last_tree b.last) → tail (last_tree a.last) ≡ 0 → tail (last_tree b.last) ≡ 0 → last ≡ true → xs ≡ a.parts.items → ys ≡ b.parts.items → parts ≡ same_parts (map part_tree xs) (map part_tree ys) → parts ≡ same_effect (effect_tree a) (effect_tree b)
comes_to a b xs ys last parts e h k t p q l =
    l ∙ (λ i. same_parts (map part_tree (p i)) (map part_tree (q i)))
    ∙ sym (and_true (same_parts (map part_tree a.parts.items) (map part_tree b.parts.items)))
    ∙ ap (λ x. same_parts (map part_tree a.parts.items) (map part_tree b.parts.items) && x) (sym t ∙ e)
    ∙ sym (by_ends a b h k)

-- they don't end alike
pub ends_apart : (a b : Effect) (last : Truth) → last ≡ same_effect (last_tree a.last) (last_tree b.last) → tail (last_tree a.last) ≡ 0 → tail (last_tree b.last) ≡ 0 → last ≡ false → last ≡ same_effect (effect_tree a) (effect_tree b)
ends_apart a b last e h k f =
    f ∙ sym (and_false (same_parts (map part_tree a.parts.items) (map part_tree b.parts.items)))
    ∙ ap (λ x. same_parts (map part_tree a.parts.items) (map part_tree b.parts.items) && x) (sym f ∙ e)
    ∙ sym (by_ends a b h k)
