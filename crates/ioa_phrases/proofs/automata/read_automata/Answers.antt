use Rattle.std.proofs.Common.{List, ◌∙◌, ◌∷◌, ◌++◌, [], ap, sym, map, true, refl, arith, length, string_bytes}
use Rattle.ioa_tokens.specs.Tokens.{toks_of}
use Rattle.ioa_trees.specs.Nodes.{Node, source, further}
use Rattle.ioa_trees.specs.Grammar.{outside}
use Rattle.ioa_phrases.specs.Machine.{Bottom, In, At, go}
use Rattle.ioa_trees.specs.Spelling.{automata_nodes}
use Rattle.ioa_trees.specs.Views.{view_automaton}
use Rattle.ioa_phrases.specs.Blocks.{automata_parts, component_parts, further_parts}
use Rattle.ioa_phrases.proofs.Joins.{automata_push, further_node}
use Rattle.ioa_phrases.proofs.Moves.{no_many, stops_along}
use Rattle.ioa_phrases.proofs.Rows.{goes_stops, many_enters}
use Rattle.ioa_phrases.proofs.automata.read_automata.Goals as goal

pub loop-alloc-preserved : goal.loop-alloc-preserved
loop-alloc-preserved c =
    let all = c.loop-alloc.all.items in
    let a = c.in_ok-automaton.automaton in
    let s = string_bytes c.in_ok-automaton.next in
    let left = toks_of c.in_ok-automaton.after.now in
    record {
      reads = λ done.
          let so = done ++ automata_nodes (map view_automaton all) (string_bytes c.loop-alloc.name) in
          c.loop-alloc.invariant.reads done
          ∙ (many_enters source further so component_parts Bottom (toks_of c.loop-alloc.rest.now) (sym c.loop-alloc-test.ensures) refl
          ∙ (c.in_ok-automaton.ensures.gives further [] [] (In source so further_parts outside Bottom) refl
          ∙ (ap (λ q. go true (At source ((done ++ automata_nodes (map view_automaton all) q) ++ further_node (view_automaton a) s ∷ []) further_parts Bottom) left) (sym c.in_ok-automaton.ensures.named)
          ∙ ap (λ q. go true (At source q further_parts Bottom) left)
          (automata_push done all a s c.loop-alloc.invariant.some ∙ ap (λ q. done ++ automata_nodes (map view_automaton q) s) (sym c.in_ok-push-2.ensures.items)))));
      some = omega (arith, c.loop-alloc.invariant.some, ap (λ z. length z) c.in_ok-push-2.ensures.items);
      shorter = omega (arith, c.loop-alloc.invariant.shorter, c.in_ok-automaton.ensures.shorter);
    }

pub returns-clause-goes : goal.returns-clause-goes
returns-clause-goes c = λ done.
    c.loop-alloc.invariant.reads done
    ∙ no_many source further (done ++ automata_nodes (map view_automaton c.loop-alloc.all.items) (string_bytes c.loop-alloc.name)) outside component_parts Bottom (toks_of c.loop-alloc.rest.now) (sym c.loop-alloc-test.ensures)

pub returns-in_err-automaton-clause-goes : goal.returns-in_err-automaton-clause-goes
returns-in_err-automaton-clause-goes c =
    let so = λ (done : List Node). done ++ automata_nodes (map view_automaton c.loop-alloc.all.items) (string_bytes c.loop-alloc.name) in
    let e = c.in_err-automaton.field-0.0 in
    goes_stops (λ x. automata_nodes (map view_automaton x.0.items) (string_bytes x.1)) (λ x. toks_of x.2.now) automata_parts component_parts (toks_of c.args.tokens.now) c.from_residual-in_err-automaton.result e
    c.from_residual-in_err-automaton.ensures.0 c.from_residual-in_err-automaton.ensures.1
    (λ done. stops_along e
    (c.loop-alloc.invariant.reads done ∙ many_enters source further (so done) component_parts Bottom (toks_of c.loop-alloc.rest.now) (sym c.loop-alloc-test.ensures) refl)
    (c.in_err-automaton.ensures.gives further [] [] (In source (so done) further_parts outside Bottom) refl))
