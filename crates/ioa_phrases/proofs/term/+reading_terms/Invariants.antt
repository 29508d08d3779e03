use Rattle.std.proofs.Common.{◌≡◌, ◌≤◌, ◌+◌, ◌-◌, ◌*◌, length, true, false, nat_lt, map, ◌∷◌, []}
use Rattle.ioa_tokens.specs.Tokens.{toks_of}
use Rattle.ioa_trees.specs.Nodes.{term, conjunction, sum, product, postfix, or_part, and_part, addend, factor, index_part}
use Rattle.ioa_trees.specs.Grammar.{many, outside}
use Rattle.ioa_phrases.specs.Machine.{Frames, depth, want, At, go}
use Rattle.ioa_trees.specs.Spelling.{node}
use Rattle.ioa_phrases.specs.Items.{or_item, and_item, addend_item, factor_item, index_item}
use Rattle.ioa_trees.specs.Views.{view}
use Rattle.ioa_phrases.proofs.term.+reading_terms.Given as goal

abbrev pub decreases-read_term : goal.decreases-read_term
decreases-read_term l = 16 * (65 - l.depth) + 14

abbrev pub decreases-read_conjunction : goal.decreases-read_conjunction
decreases-read_conjunction l = 16 * (65 - l.depth) + 13

abbrev pub decreases-read_negation : goal.decreases-read_negation
decreases-read_negation l = 16 * (65 - l.depth) + 12

abbrev pub decreases-read_low_negation : goal.decreases-read_low_negation
decreases-read_low_negation l = 16 * (65 - l.depth) + 11

abbrev pub decreases-read_comparison : goal.decreases-read_comparison
decreases-read_comparison l = 16 * (65 - l.depth) + 10

abbrev pub decreases-read_sum : goal.decreases-read_sum
decreases-read_sum l = 16 * (65 - l.depth) + 9

abbrev pub decreases-read_addend : goal.decreases-read_addend
decreases-read_addend l = 16 * (65 - l.depth) + 8

abbrev pub decreases-read_product : goal.decreases-read_product
decreases-read_product l = 16 * (65 - l.depth) + 7

abbrev pub decreases-read_factor : goal.decreases-read_factor
decreases-read_factor l = 16 * (65 - l.depth) + 6

abbrev pub decreases-read_unary : goal.decreases-read_unary
decreases-read_unary l = 16 * (65 - l.depth) + 5

abbrev pub decreases-read_low_unary : goal.decreases-read_low_unary
decreases-read_low_unary l = 16 * (65 - l.depth) + 4

abbrev pub decreases-read_postfix : goal.decreases-read_postfix
decreases-read_postfix l = 16 * (65 - l.depth) + 3

abbrev pub decreases-read_primary : goal.decreases-read_primary
decreases-read_primary l = 16 * (65 - l.depth) + 2

abbrev pub decreases-read_group : goal.decreases-read_group
decreases-read_group l = 16 * (65 - l.depth) + 1

abbrev pub decreases-read_call : goal.decreases-read_call
decreases-read_call l = 16 * (65 - l.depth) + 1

abbrev pub decreases-read_append : goal.decreases-read_append
decreases-read_append l = 16 * (65 - l.depth) + 1

abbrev pub decreases-read_second : goal.decreases-read_second
decreases-read_second l = 16 * (65 - l.depth) + 0

abbrev pub invariant-read_term-loop-after : goal.invariant-read_term-loop-after
invariant-read_term-loop-after l = record {
  reads : (k : Frames) → depth k ≡ l.depth → go true (want term k) (toks_of l.tokens) ≡ go true (At term (node (view l.first) ∷ map or_item l.others.items) (many or_part outside ∷ []) k) (toks_of l.rest);
  shorter : length l.rest ≤ length l.tokens;
}

abbrev pub decreases-read_term-loop-after : goal.decreases-read_term-loop-after
decreases-read_term-loop-after l = length l.rest

abbrev pub invariant-read_conjunction-loop-after : goal.invariant-read_conjunction-loop-after
invariant-read_conjunction-loop-after l = record {
  reads : (k : Frames) → depth k ≡ l.depth → go true (want conjunction k) (toks_of l.tokens) ≡ go true (At conjunction (node (view l.first) ∷ map and_item l.others.items) (many and_part outside ∷ []) k) (toks_of l.rest);
  shorter : length l.rest ≤ length l.tokens;
}

abbrev pub decreases-read_conjunction-loop-after : goal.decreases-read_conjunction-loop-after
decreases-read_conjunction-loop-after l = length l.rest

abbrev pub invariant-read_sum-loop-found : goal.invariant-read_sum-loop-found
invariant-read_sum-loop-found l = record {
  reads : (k : Frames) → depth k ≡ l.depth → go true (want sum k) (toks_of l.tokens) ≡ go true (At sum (node (view l.first) ∷ map addend_item l.others.items) (many addend outside ∷ []) k) (toks_of l.rest);
  shorter : length l.rest ≤ length l.tokens;
}

abbrev pub decreases-read_sum-loop-found : goal.decreases-read_sum-loop-found
decreases-read_sum-loop-found l = length l.rest

abbrev pub invariant-read_product-loop-found : goal.invariant-read_product-loop-found
invariant-read_product-loop-found l = record {
  reads : (k : Frames) → depth k ≡ l.depth → go true (want product k) (toks_of l.tokens) ≡ go true (At product (node (view l.first) ∷ map factor_item l.others.items) (many factor outside ∷ []) k) (toks_of l.rest);
  shorter : length l.rest ≤ length l.tokens;
}

abbrev pub decreases-read_product-loop-found : goal.decreases-read_product-loop-found
decreases-read_product-loop-found l = length l.rest

abbrev pub invariant-read_postfix-loop-after : goal.invariant-read_postfix-loop-after
invariant-read_postfix-loop-after l = record {
  reads : (k : Frames) → depth k ≡ l.depth → nat_lt 64 (depth k) ≡ false → go true (want postfix k) (toks_of l.tokens) ≡ go true (At postfix (node (view l.first) ∷ map index_item l.others.items) (many index_part outside ∷ []) k) (toks_of l.rest);
  shorter : length l.rest ≤ length l.tokens;
}

abbrev pub decreases-read_postfix-loop-after : goal.decreases-read_postfix-loop-after
decreases-read_postfix-loop-after l = length l.rest
