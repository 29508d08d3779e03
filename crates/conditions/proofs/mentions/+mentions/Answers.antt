use Rattle.std.proofs.Common.{◌≡◌, ◌∙◌, sym, ap, Bool as Truth, true, false, ◌||◌}
use Rattle.conditions.specs.Mentions.{mentions_by}
use Rattle.conditions.proofs.mentions.+mentions.Goals as goal

first_is : (a b : Truth) → a ≡ true → a ≡ a || b
first_is a b h = h ∙ sym (ap (λ x. x || b) h)

second_is : (a b : Truth) → a ≡ false → b ≡ a || b
second_is a b h = sym (ap (λ x. x || b) h)

pub mentions-returns-then-first : goal.mentions-returns-then-first
mentions-returns-then-first t c =
    first_is c.operand_mentions-first.result c.links_mention-links.result c.if-first.true
    ∙ mentions_by c.args.p c.args.term.now c.as_slice.result.now c.operand_mentions-first.result c.links_mention-links.result c.as_slice.ensures.value c.operand_mentions-first.ensures c.links_mention-links.ensures

pub mentions-returns-else-first : goal.mentions-returns-else-first
mentions-returns-else-first t c =
    second_is c.operand_mentions-first.result c.links_mention-links.result c.if-first.false
    ∙ mentions_by c.args.p c.args.term.now c.as_slice.result.now c.operand_mentions-first.result c.links_mention-links.result c.as_slice.ensures.value c.operand_mentions-first.ensures c.links_mention-links.ensures
