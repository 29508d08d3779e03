use Rattle.std.proofs.Common.{◌≡◌, ◌∙◌, sym, ap, Bool as Truth, true, false, ◌||◌}
use Rattle.terms.specs.Mentions.{mentions_by}
use Rattle.terms.proofs.mentions.+mentions.Goals as goal

first_is : (a b : Truth) → a ≡ true → a ≡ a || b
first_is a b h = h ∙ sym (ap (λ x. x || b) h)

second_is : (a b : Truth) → a ≡ false → b ≡ a || b
second_is a b h = sym (ap (λ x. x || b) h)

pub mentions_parameter-returns-then-first : goal.mentions_parameter-returns-then-first
mentions_parameter-returns-then-first t c =
    first_is c.operand_mentions-first.result c.links_mention-links.result c.if-first.true
    ∙ mentions_by c.args.term.now c.as_slice.result.now c.operand_mentions-first.result c.links_mention-links.result c.as_slice.ensures.value c.operand_mentions-first.ensures c.links_mention-links.ensures

pub mentions_parameter-returns-else-first : goal.mentions_parameter-returns-else-first
mentions_parameter-returns-else-first t c =
    second_is c.operand_mentions-first.result c.links_mention-links.result c.if-first.false
    ∙ mentions_by c.args.term.now c.as_slice.result.now c.operand_mentions-first.result c.links_mention-links.result c.as_slice.ensures.value c.operand_mentions-first.ensures c.links_mention-links.ensures
