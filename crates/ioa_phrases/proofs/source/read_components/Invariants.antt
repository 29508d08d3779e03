use Rattle.std.proofs.Common.{◌≡◌, ◌≤◌, ◌<◌, length, List, ◌∷◌, ◌++◌, true}
use Rattle.ioa_tokens.specs.declared.Word.TheVariants as w
use Rattle.ioa_tokens.specs.Tokens.{toks_of}
use Rattle.ioa_trees.specs.Nodes.{Node, source, component_part}
use Rattle.ioa_trees.specs.Grammar.{many, outside}
use Rattle.ioa_phrases.specs.Machine.{Bottom, At, at, go}
use Rattle.ioa_trees.specs.Spelling.{key}
use Rattle.ioa_phrases.specs.Items.{listed}
use Rattle.ioa_phrases.specs.Blocks.{component_item, component_part_item, component_parts, hidden_parts}
use Rattle.ioa_phrases.proofs.source.read_components.Given as goal

abbrev pub invariant-loop-after : goal.invariant-loop-after
invariant-loop-after l = record {
  reads : (done : List Node) → go true (at source done component_parts Bottom) (toks_of l.tokens)
      ≡ go true (At source (done ++ (key w.Components ∷ listed component_item component_part_item l.all.items)) (many component_part outside ∷ hidden_parts) Bottom) (toks_of l.rest);
  some : 0 < length l.all.items;
  shorter : length l.rest ≤ length l.tokens;
}

abbrev pub decreases-loop-after : goal.decreases-loop-after
decreases-loop-after l = length l.rest
