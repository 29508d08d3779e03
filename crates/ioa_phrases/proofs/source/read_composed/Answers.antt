use Rattle.std.proofs.Common.{◌∙◌, ◌∷◌, ◌++◌, [], append_assoc, ap, map, true, string_bytes}
use Rattle.ioa_tokens.specs.declared.Word.TheVariants as w
use Rattle.ioa_tokens.specs.Tokens.{toks_of}
use Rattle.ioa_trees.specs.Nodes.{source}
use Rattle.ioa_phrases.specs.Machine.{Bottom, at, go}
use Rattle.ioa_trees.specs.Spelling.{components_nodes, hidden_node, key}
use Rattle.ioa_trees.specs.Views.{view_component}
use Rattle.ioa_phrases.proofs.source.read_composed.Goals as goal

pub returns-clause-goes : goal.returns-clause-goes
returns-clause-goes c = λ done.
    let cs = key w.Components ∷ components_nodes (map view_component c.in_ok-components.components.items) in
    let hs = hidden_node (map string_bytes c.in_ok-hidden.hidden.items) in
    c.in_ok-components.ensures.goes done
    ∙ (c.in_ok-hidden.ensures.goes (done ++ cs)
    ∙ ap (λ z. go true (at source z [] Bottom) (toks_of c.in_ok-hidden.rest.now)) (append_assoc done cs hs))
