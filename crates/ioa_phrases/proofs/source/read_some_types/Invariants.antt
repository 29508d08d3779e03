use Rattle.std.proofs.Common.{◌≡◌, ◌≤◌, length, List, [], ◌∷◌, ◌++◌, map, true}
use Rattle.ioa_tokens.specs.Tokens.{toks_of}
use Rattle.ioa_trees.specs.Nodes.{Node, source, type_definition}
use Rattle.ioa_trees.specs.Grammar.{definition_parts, outside, whole}
use Rattle.ioa_phrases.specs.Machine.{Bottom, In, At, at, go}
use Rattle.ioa_trees.specs.Spelling.{key}
use Rattle.ioa_tokens.specs.declared.Word.TheVariants as w
use Rattle.ioa_phrases.specs.Blocks.{definition_item}
use Rattle.ioa_phrases.proofs.source.read_some_types.Given as goal

abbrev pub invariant-loop-after : goal.invariant-loop-after
invariant-loop-after l = record {
  reads : (done : List Node) → go true (at type_definition (key w.Type ∷ []) definition_parts (In source done whole outside Bottom)) (toks_of l.tokens)
      ≡ go true (At source (done ++ map definition_item l.all.items) whole Bottom) (toks_of l.rest);
  shorter : length l.rest ≤ length l.tokens;
}

abbrev pub decreases-loop-after : goal.decreases-loop-after
decreases-loop-after l = length l.rest
