-- A term is like another whose operand and links are like its own.
use Rattle.std.specs.Prelude.{◌≡◌, List, map}
use Rattle.std.proofs.Common.{ap, sym, ◌∙◌}
use Rattle.terms.specs.Linked.{opened}
use Rattle.terms.specs.TermTree.{linked, term_tree, operand_tree, link_tree}
use Rattle.terms.specs.declared.term.Link.{Link}
use Rattle.terms.specs.declared.term.Operand.{Operand}
use Rattle.terms.specs.declared.term.Term.{Term}

pub chained : (copy : Term) (first : Operand) (links : List Link) → operand_tree copy.first ≡ operand_tree first → map link_tree copy.links.items ≡ map link_tree links → term_tree copy ≡ linked (operand_tree first) (map link_tree links)
chained copy first links h k = opened copy ∙ (λ i. linked (h i) (k i))

pub copied : (copy term : Term) (links : List Link) → links ≡ term.links.items → operand_tree copy.first ≡ operand_tree term.first → map link_tree copy.links.items ≡ map link_tree links → term_tree copy ≡ term_tree term
copied copy term links e h k =
    chained copy term.first links h k
    ∙ ap (λ ls. linked (operand_tree term.first) (map link_tree ls)) e
    ∙ sym (opened term)
