use Rattle.std.proofs.Common.{◌≡◌, ◌≤◌, length, List, ◌∷◌, ◌++◌, map, true}
use Rattle.ioa_tokens.specs.Tokens.{toks_of}
use Rattle.ioa_trees.specs.Nodes.{Sort, Node, entry}
use Rattle.ioa_trees.specs.Grammar.{Part, one, many, outside}
use Rattle.ioa_phrases.specs.Machine.{Frames, depth, at, At, go}
use Rattle.ioa_phrases.specs.Lists.{entry_item}
use Rattle.ioa_phrases.proofs.lists.read_entries.Given as goal

abbrev pub invariant-loop-alloc : goal.invariant-loop-alloc
invariant-loop-alloc l = record {
  reads : (z : Sort) (done : List Node) (ps : List Part) (k : Frames) → depth k ≡ 0
      → go true (at z done (one entry outside ∷ (many entry outside ∷ ps)) k) (toks_of l.tokens) ≡ go true (At z (done ++ map entry_item l.all.items) (many entry outside ∷ ps) k) (toks_of l.rest);
  shorter : length l.rest ≤ length l.tokens;
}

abbrev pub decreases-loop-alloc : goal.decreases-loop-alloc
decreases-loop-alloc l = length l.rest
