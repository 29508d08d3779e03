use Rattle.std.proofs.Common.{◌∙◌, ◌++◌, ◌∷◌, ap, map, true, append_assoc, arith}
use Rattle.ioa_tokens.specs.Tokens.{toks_of}
use Rattle.ioa_trees.specs.Nodes.{basic, states}
use Rattle.ioa_trees.specs.Grammar.{maybe, outside}
use Rattle.ioa_phrases.specs.Machine.{go, at}
use Rattle.ioa_trees.specs.Spelling.{states_node}
use Rattle.ioa_trees.specs.Views.{view_variable}
use Rattle.ioa_phrases.specs.Lists.{entry_item}
use Rattle.ioa_phrases.specs.Blocks.{after_states}
use Rattle.ioa_phrases.proofs.Moves.{low_depth}
use Rattle.ioa_phrases.proofs.automata.read_signature.Goals as goal

pub returns-clause-leads : goal.returns-clause-leads
returns-clause-leads c = λ done k d.
    let es = map entry_item c.in_ok-entries.entries.items in
    c.in_ok-entries.ensures.gives basic done (maybe states outside ∷ after_states) k d
    ∙ (c.in_ok-variables.ensures.perhaps (done ++ es) k d (low_depth 0 k d (omega arith))
    ∙ ap (λ z. go true (at basic z after_states k) (toks_of c.in_ok-variables.rest.now)) (append_assoc done es (states_node (map view_variable c.in_ok-variables.variables.items))))
