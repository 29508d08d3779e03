use Rattle.std.proofs.Common.{◌≡◌, ◌≤◌, ◌<◌, length, [], ◌∷◌, true}
use Rattle.ioa_tokens.specs.declared.Word.TheVariants as w
use Rattle.ioa_tokens.specs.Tokens.{toks_of}
use Rattle.ioa_trees.specs.Nodes.{parameters, parameter_part}
use Rattle.ioa_trees.specs.Grammar.{token, word, many, inside, outside, parameters_parts}
use Rattle.ioa_phrases.specs.Machine.{Frames, depth, at, At, go}
use Rattle.ioa_trees.specs.Spelling.{key}
use Rattle.ioa_phrases.specs.Items.{listed, parameter_item, parameter_part_item}
use Rattle.ioa_phrases.proofs.entries.read_parameter_list.Given as goal

abbrev pub invariant-loop-after : goal.invariant-loop-after
invariant-loop-after l = record {
  reads : (k : Frames) → depth k ≡ 0
      → go true (at parameters (key w.Open ∷ []) parameters_parts k) (toks_of l.tokens)
      ≡ go true (At parameters (key w.Open ∷ listed parameter_item parameter_part_item l.all.items) (many parameter_part inside ∷ (token (word w.Close) outside ∷ [])) k) (toks_of l.rest);
  some : 0 < length l.all.items;
  shorter : length l.rest ≤ length l.tokens;
}

abbrev pub decreases-loop-after : goal.decreases-loop-after
decreases-loop-after l = length l.rest
