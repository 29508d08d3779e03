use Rattle.std.proofs.Common.{◌∙◌, List, ◌++◌, [], append_assoc, ap, sym, map, true, string_bytes}
use Rattle.ioa_tokens.specs.Tokens.{toks_of}
use Rattle.ioa_trees.specs.Nodes.{Node, source}
use Rattle.ioa_phrases.specs.Machine.{Bottom, Verdict, at, go}
use Rattle.ioa_trees.specs.Spelling.{automata_nodes, composed_nodes}
use Rattle.ioa_trees.specs.Views.{view_automaton, view_composed}
use Rattle.ioa_phrases.specs.Blocks.{definition_item}
use Rattle.ioa_phrases.proofs.Joins.{definition_items}
use Rattle.ioa_phrases.proofs.source.read_front.Goals as goal

pub returns-clause-goes : goal.returns-clause-goes
returns-clause-goes c = λ done.
    let ds = c.in_ok-types.types.items in
    let all = map view_automaton c.in_ok-automata.automata.items in
    let composed = c.in_ok-composed.composed in
    let ts = map definition_item ds in
    let us = automata_nodes all (string_bytes c.in_ok-automata.name) in
    let vs = composed_nodes (view_composed composed) in
    let whole : List Node → Verdict = λ z. go true (at source (done ++ z) [] Bottom) (toks_of c.in_ok-composed.rest.now) in
    c.in_ok-types.ensures.goes done
    ∙ (c.in_ok-automata.ensures.goes (done ++ ts)
    ∙ (c.in_ok-composed.ensures.goes ((done ++ ts) ++ us)
    ∙ (ap (λ z. go true (at source z [] Bottom) (toks_of c.in_ok-composed.rest.now)) (append_assoc (done ++ ts) us vs ∙ append_assoc done ts (us ++ vs))
    ∙ (ap (λ z. whole (ts ++ (automata_nodes all z ++ vs))) (sym c.in_ok-composed.ensures.named)
    ∙ ap (λ z. whole (z ++ (automata_nodes all (string_bytes composed.name) ++ vs))) (sym (definition_items ds))))))
