use Rattle.std.proofs.Common.{◌∙◌, ◌++◌, ◌∷◌, [], ap, map, true, append_assoc, arith, string_bytes}
use Rattle.ioa_tokens.specs.declared.Word.TheVariants as w
use Rattle.ioa_tokens.specs.Tokens.{toks_of}
use Rattle.ioa_trees.specs.Nodes.{basic, tasks}
use Rattle.ioa_trees.specs.Grammar.{maybe, outside}
use Rattle.ioa_phrases.specs.Machine.{go, at, At}
use Rattle.ioa_trees.specs.Spelling.{key, tasks_node}
use Rattle.ioa_phrases.specs.Lists.{transition_item}
use Rattle.ioa_phrases.specs.Blocks.{after_states}
use Rattle.ioa_phrases.proofs.Moves.{low_depth}
use Rattle.ioa_phrases.proofs.automata.read_behaviour.Goals as goal

pub returns-clause-leads : goal.returns-clause-leads
returns-clause-leads c = λ done k d.
    let so = done ++ key w.Transitions ∷ [] in
    let ts = map transition_item c.in_ok-transitions.transitions.items in
    let us = tasks_node (map (λ t. map string_bytes t.items) c.in_ok-tasks.tasks.items) in
    ap (λ z. go true (At basic done after_states k) z) c.in_ok-rest.ensures.cases
    ∙ (c.in_ok-transitions.ensures.gives basic so (maybe tasks outside ∷ []) k d
    ∙ (c.in_ok-tasks.ensures.perhaps (so ++ ts) k d (low_depth 0 k d (omega arith))
    ∙ ap (λ z. go true (at basic z [] k) (toks_of c.in_ok-tasks.rest.now)) (append_assoc so ts us ∙ append_assoc done (key w.Transitions ∷ []) (ts ++ us))))
