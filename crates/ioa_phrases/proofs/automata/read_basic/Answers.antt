use Rattle.std.proofs.Common.{◌∙◌, List, ◌++◌, ◌∷◌, ap, sym, map, true, string_bytes}
use Rattle.ioa_tokens.specs.declared.Word.TheVariants as w
use Rattle.ioa_tokens.specs.Tokens.{toks_of}
use Rattle.ioa_trees.specs.Nodes.{Node, basic}
use Rattle.ioa_phrases.specs.Machine.{Verdict, go, have}
use Rattle.ioa_trees.specs.Spelling.{branch, entry_node, formals_nodes, key, states_node, tasks_node}
use Rattle.ioa_trees.specs.Views.{view_declared, view_entry, view_variable}
use Rattle.ioa_phrases.specs.Lists.{entry_item, transition_item}
use Rattle.ioa_phrases.specs.Blocks.{head_nodes}
use Rattle.ioa_phrases.proofs.Joins.{body_made, entry_items, transition_items}
use Rattle.ioa_phrases.proofs.automata.read_basic.Goals as goal

pub returns-clause-gives : goal.returns-clause-gives
returns-clause-gives c = λ k d l.
    let ds = map view_declared c.in_ok-formals.formals.items in
    let es = c.in_ok-entries.entries.items in
    let vs = states_node (map view_variable c.in_ok-entries.variables.items) in
    let ts = c.in_ok-transitions.transitions.items in
    let us = tasks_node (map (λ t. map string_bytes t.items) c.in_ok-transitions.tasks.items) in
    let whole : List Node → Verdict = λ z. go true (have (branch basic z) k) (toks_of c.in_ok-transitions.rest.now) in
    c.in_ok-formals.ensures.gives k d
    ∙ (c.in_ok-entries.ensures.leads (head_nodes ds) k d
    ∙ (c.in_ok-transitions.ensures.leads (head_nodes ds ++ (map entry_item es ++ vs)) k d
    ∙ (ap whole (body_made (formals_nodes ds) (map entry_item es) vs (map transition_item ts) us (key w.Signature) (key w.Transitions))
    ∙ (ap (λ z. whole (formals_nodes ds ++ (key w.Signature ∷ (z ++ (vs ++ (key w.Transitions ∷ (map transition_item ts ++ us))))))) (sym (entry_items es))
    ∙ ap (λ z. whole (formals_nodes ds ++ (key w.Signature ∷ (map entry_node (map view_entry es) ++ (vs ++ (key w.Transitions ∷ (z ++ us))))))) (sym (transition_items ts))))))
