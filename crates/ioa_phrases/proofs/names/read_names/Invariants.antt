use Rattle.std.proofs.Common.{◌≡◌, ◌≤◌, ◌<◌, length, List, ◌∷◌, ◌++◌, true}
use Rattle.ioa_tokens.specs.Tokens.{toks_of}
use Rattle.ioa_trees.specs.Nodes.{Sort, Node, name_part}
use Rattle.ioa_trees.specs.Grammar.{Part, token, name, many, outside}
use Rattle.ioa_phrases.specs.Machine.{Frames, At, go}
use Rattle.ioa_phrases.specs.Items.{names_nodes}
use Rattle.ioa_phrases.proofs.names.read_names.Given as goal

abbrev pub invariant-loop-after : goal.invariant-loop-after
invariant-loop-after l = record {
  reads : (z : Sort) (done : List Node) (ps : List Part) (k : Frames)
      → go true (At z done (token name outside ∷ (many name_part outside ∷ ps)) k) (toks_of l.tokens) ≡ go true (At z (done ++ names_nodes l.all.items) (many name_part outside ∷ ps) k) (toks_of l.rest);
  some : 0 < length l.all.items;
  shorter : length l.rest ≤ length l.tokens;
}

abbrev pub decreases-loop-after : goal.decreases-loop-after
decreases-loop-after l = length l.rest
