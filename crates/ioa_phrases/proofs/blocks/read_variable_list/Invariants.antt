use Rattle.std.proofs.Common.{◌≡◌, ◌≤◌, ◌<◌, length, [], ◌∷◌, true, false, nat_lt}
use Rattle.ioa_tokens.specs.declared.Word.TheVariants as w
use Rattle.ioa_tokens.specs.Tokens.{toks_of}
use Rattle.ioa_trees.specs.Nodes.{states, variable_part}
use Rattle.ioa_trees.specs.Grammar.{many, outside}
use Rattle.ioa_phrases.specs.Machine.{Frames, depth, at, At, go}
use Rattle.ioa_trees.specs.Spelling.{key}
use Rattle.ioa_phrases.specs.Items.{listed}
use Rattle.ioa_phrases.specs.Blocks.{variable_item, variable_part_item, variable_parts}
use Rattle.ioa_phrases.proofs.blocks.read_variable_list.Given as goal

abbrev pub invariant-loop-after : goal.invariant-loop-after
invariant-loop-after l = record {
  reads : (k : Frames) → depth k ≡ 0 → nat_lt 64 (depth k) ≡ false
      → go true (at states (key w.States ∷ []) variable_parts k) (toks_of l.tokens)
      ≡ go true (At states (key w.States ∷ listed variable_item variable_part_item l.all.items) (many variable_part outside ∷ []) k) (toks_of l.rest);
  some : 0 < length l.all.items;
  shorter : length l.rest ≤ length l.tokens;
}

abbrev pub decreases-loop-after : goal.decreases-loop-after
decreases-loop-after l = length l.rest
