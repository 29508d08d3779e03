use Rattle.std.proofs.Common.{◌≡◌, ◌≤◌, ◌<◌, length, [], ◌∷◌, true}
use Rattle.ioa_tokens.specs.declared.Word.TheVariants as w
use Rattle.ioa_tokens.specs.Tokens.{toks_of}
use Rattle.ioa_trees.specs.Nodes.{arguments, argument_part}
use Rattle.ioa_trees.specs.Grammar.{token, word, many, inside, outside, arguments_parts}
use Rattle.ioa_phrases.specs.Machine.{Frames, depth, at, At, go}
use Rattle.ioa_trees.specs.Spelling.{key}
use Rattle.ioa_phrases.specs.Items.{listed, term_item, argument_item}
use Rattle.ioa_phrases.proofs.components.read_argument_list.Given as goal

abbrev pub invariant-loop-after : goal.invariant-loop-after
invariant-loop-after l = record {
  reads : (k : Frames) → depth k ≡ 0
      → go true (at arguments (key w.Open ∷ []) arguments_parts k) (toks_of l.tokens)
      ≡ go true (At arguments (key w.Open ∷ listed term_item argument_item l.all.items) (many argument_part inside ∷ (token (word w.Close) outside ∷ [])) k) (toks_of l.rest);
  some : 0 < length l.all.items;
  shorter : length l.rest ≤ length l.tokens;
}

abbrev pub decreases-loop-after : goal.decreases-loop-after
decreases-loop-after l = length l.rest
