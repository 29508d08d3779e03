use Rattle.std.proofs.Common.{◌≡◌, ◌≤◌, ◌<◌, length, List, ◌++◌, map, true, string_bytes}
use Rattle.ioa_tokens.specs.Tokens.{toks_of}
use Rattle.ioa_trees.specs.Nodes.{Node, source}
use Rattle.ioa_phrases.specs.Machine.{Bottom, At, go}
use Rattle.ioa_trees.specs.Spelling.{automata_nodes}
use Rattle.ioa_trees.specs.Views.{view_automaton}
use Rattle.ioa_phrases.specs.Blocks.{automata_parts, further_parts}
use Rattle.ioa_phrases.proofs.automata.read_automata.Given as goal

abbrev pub invariant-loop-alloc : goal.invariant-loop-alloc
invariant-loop-alloc l = record {
  reads : (done : List Node) → go true (At source done automata_parts Bottom) (toks_of l.tokens)
      ≡ go true (At source (done ++ automata_nodes (map view_automaton l.all.items) (string_bytes l.name)) further_parts Bottom) (toks_of l.rest);
  some : 0 < length l.all.items;
  shorter : length l.rest ≤ length l.tokens;
}

abbrev pub decreases-loop-alloc : goal.decreases-loop-alloc
decreases-loop-alloc l = length l.rest
