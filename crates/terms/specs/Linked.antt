-- Values of terms with links, and states after effects with parts.
use Rattle.std.specs.Prelude.{◌≡◌, ◌++◌, ℤ, Bool as Truth, drop, map, List, [], ◌∷◌, Option, None, Some, IfSome, refl}
use Rattle.std.proofs.Common.{ap, sym, ◌∙◌}
use Rattle.terms.specs.Datum.{Datum, Just, items_of, items_pack}
use Rattle.terms.specs.Shapes.{rest}
use Rattle.terms.specs.Meaning.{Scope, combined, number, value}
use Rattle.terms.specs.TermTree.{TermTree, LinkTree, On, Remainder, Binary, Modulo, link_on, linked, link_step, operand_step, term_step, term_tree, operand_tree, link_tree}
use Rattle.terms.specs.declared.term.Term.{Term}
use Rattle.terms.specs.declared.term.Operand.{Operand}
use Rattle.terms.specs.declared.term.Link.{Link}
use Rattle.terms.specs.declared.term.Link.TheOpen.{Term-F}
use Rattle.terms.specs.declared.term.Link.TheOpen as code
use Rattle.terms.specs.declared.term.Link.TheViews as made
use Rattle.terms.specs.declared.term.Link.TheFolds.{fold-roll-Term, fold-roll-Operand}
use Rattle.std.specs.declared.boxed.Box.{Box}
use Rattle.std.specs.declared.alloc.Global.{Global}
use Rattle.terms.specs.EffectTree.{EffectTree, PartTree, followed, ended, last_step, part_step, effect_step, effect_tree, last_tree, part_tree}
use Rattle.terms.specs.declared.effect.Effect.{Effect}
use Rattle.terms.specs.declared.effect.Part.{Part}
use Rattle.terms.specs.declared.effect.Last.{Last}
use Rattle.terms.specs.declared.effect.Last.TheOpen.{Effect-F}
use Rattle.terms.specs.declared.effect.Last.TheFolds.{fold-roll-Effect}
use Rattle.terms.specs.declared.scalar.Scalar.TheVariants.{Int, Bool}

-- what a link makes of the value before it
abbrev pub value_on : LinkTree → Scope → List Datum → Datum → Datum
value_on (On operator right) scope cells left = Just (combined operator left (value right scope cells))
value_on (Remainder divisor) scope cells left = Just (Int (rest (number left) divisor))

-- what links make of the value before them, from the left
abbrev pub values_on : List LinkTree → Scope → List Datum → Datum → Datum
values_on [] scope cells left = left
values_on (link ∷ links) scope cells left = values_on links scope cells (value_on link scope cells left)

-- what a term is so far: a number, up to a link that compares it
abbrev pub so_far : ℤ → Option Truth → Datum
so_far number None = Just (Int number)
so_far number (Some truth) = Just (Bool truth)

pub value_linked : (term : TermTree) (links : List LinkTree) (scope : Scope) (cells : List Datum) → value (linked term links) scope cells ≡ values_on links scope cells (value term scope cells)
value_linked term [] scope cells = refl
value_linked term (On operator right ∷ links) scope cells = value_linked (Binary operator term right) links scope cells
value_linked term (Remainder divisor ∷ links) scope cells = value_linked (Modulo term divisor) links scope cells

-- a term of the code stands for its operand with its links
pub opened : (term : Term) → term_tree term ≡ linked (operand_tree term.first) (map link_tree term.links.items)
opened term =
    let parts : Term-F Link Operand Term = record { first = term.first; links = term.links } in
    fold-roll-Term LinkTree TermTree TermTree link_step operand_step term_step parts

-- what is read of the value that links make of the first one is read of the term's value
pub read_by : {A : Type 0} (read : A → Datum) (term : Term) (links : List Link) (scope : Scope) (cells : List Datum) (first : Datum) (found : Option A) → links ≡ term.links.items → value (operand_tree term.first) scope cells ≡ first → IfSome found (λ a. values_on (map link_tree links) scope cells first ≡ read a) → IfSome found (λ a. value (term_tree term) scope cells ≡ read a)
read_by read term links scope cells first None e h k = k
read_by read term links scope cells first (Some a) e h k =
    ap (λ t. value t scope cells) (opened term)
    ∙ value_linked (operand_tree term.first) (map link_tree term.links.items) scope cells
    ∙ ap (values_on (map link_tree term.links.items) scope cells) h
    ∙ sym (ap (λ ls. values_on (map link_tree ls) scope cells first) e) ∙ k

-- the items of a list without its first
pub tail_by : (operand : Operand) (list : Box Term Global) (scope : Scope) (cells : List Datum) (items others : List Datum) → operand ≡ made.Tail list → items_of (value (term_tree list.value) scope cells) ≡ items → others ≡ drop 1 items → items_of (value (operand_tree operand) scope cells) ≡ others
tail_by operand list scope cells items others is h k =
    ap (λ o. items_of (value (operand_tree o) scope cells)) is
    ∙ ap (λ t. items_of (value t scope cells)) (ap operand_tree (sym (made.rolls-Tail list)) ∙ fold-roll-Operand LinkTree TermTree TermTree link_step operand_step term_step (code.Tail list))
    ∙ items_pack (drop 1 (items_of (value (term_tree list.value) scope cells))) ∙ ap (drop 1) h ∙ sym k

-- an effect of the code stands for its parts with the last
pub effect_opened : (effect : Effect) → effect_tree effect ≡ ended (map part_tree effect.parts.items) (last_tree effect.last)
effect_opened effect =
    let both : Effect-F Last Part Effect = record { parts = effect.parts; last = effect.last } in
    fold-roll-Effect EffectTree PartTree EffectTree last_step part_step effect_step both

linked_more : (term : TermTree) (links : List LinkTree) (link : LinkTree) → linked term (links ++ link ∷ []) ≡ link_on (linked term links) link
linked_more term [] link = refl
linked_more term (other ∷ links) link = linked_more (link_on term other) links link

map_more : {A B : Type 0} (f : A → B) (xs : List A) (x : A) → map f (xs ++ x ∷ []) ≡ map f xs ++ f x ∷ []
map_more f [] x = refl
map_more f (y ∷ xs) x = ap (λ zs. f y ∷ zs) (map_more f xs x)

-- a term with one more link
pub with_link : (term other : Term) (link : Link) → other.first ≡ term.first → other.links.items ≡ term.links.items ++ link ∷ [] → term_tree other ≡ link_on (term_tree term) (link_tree link)
with_link term other link h k =
    opened other
    ∙ (λ i. linked (operand_tree (h i)) (map link_tree (k i)))
    ∙ ap (linked (operand_tree term.first)) (map_more link_tree term.links.items link)
    ∙ linked_more (operand_tree term.first) (map link_tree term.links.items) (link_tree link)
    ∙ ap (λ t. link_on t (link_tree link)) (sym (opened term))

ended_more : (parts others : List PartTree) (last : EffectTree) → ended (parts ++ others) last ≡ ended parts (ended others last)
ended_more [] others last = refl
ended_more (part ∷ parts) others last = ap (followed part) (ended_more parts others last)

map_parts : (parts others : List Part) → map part_tree (parts ++ others) ≡ map part_tree parts ++ map part_tree others
map_parts [] others = refl
map_parts (part ∷ parts) others = ap (λ ps. part_tree part ∷ ps) (map_parts parts others)

-- an effect behind more parts
pub behind_parts : (effect other : Effect) (parts : List Part) → other.parts.items ≡ parts ++ effect.parts.items → other.last ≡ effect.last → effect_tree other ≡ ended (map part_tree parts) (effect_tree effect)
behind_parts effect other parts h k =
    effect_opened other
    ∙ (λ i. ended (map part_tree (h i)) (last_tree (k i)))
    ∙ ap (λ ps. ended ps (last_tree effect.last)) (map_parts parts effect.parts.items)
    ∙ ended_more (map part_tree parts) (map part_tree effect.parts.items) (last_tree effect.last)
    ∙ ap (ended (map part_tree parts)) (sym (effect_opened effect))
