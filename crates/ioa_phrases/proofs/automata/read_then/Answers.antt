use Rattle.std.proofs.Common.{◌∙◌, ◌++◌, ◌∷◌, [], ap, true, arith, string_bytes}
use Rattle.ioa_tokens.specs.declared.Word.TheVariants as w
use Rattle.ioa_tokens.specs.Tokens.{toks_of}
use Rattle.ioa_trees.specs.Grammar.{token, name, outside}
use Rattle.ioa_phrases.specs.Machine.{In, At, go, at}
use Rattle.ioa_trees.specs.Spelling.{basic_node, key, named}
use Rattle.ioa_trees.specs.Views.{view_automaton}
use Rattle.ioa_phrases.specs.Blocks.{next_parts}
use Rattle.ioa_phrases.proofs.Moves.{low_depth}
use Rattle.ioa_phrases.proofs.Joins.{three_made}
use Rattle.ioa_phrases.proofs.automata.read_then.Goals as goal

pub returns-clause-gives : goal.returns-clause-gives
returns-clause-gives c = λ z done ps k d.
    let a = basic_node (view_automaton c.in_ok-automaton.automaton) in
    let so = done ++ a ∷ [] in
    c.in_ok-automaton.ensures.gives (In z done (next_parts ps) outside k) d (low_depth 0 k d (omega arith))
    ∙ (ap (λ q. go true (At z so (next_parts ps) k) q) c.in_ok-rest.ensures.cases
    ∙ (ap (λ q. go true (At z (so ++ key w.Automaton ∷ []) (token name outside ∷ ps) k) q) c.in_ok-next.ensures.cases
    ∙ ap (λ q. go true (at z q ps k) (toks_of c.in_ok-next.rest.now)) (three_made done a (key w.Automaton) (named (string_bytes c.in_ok-next.next)))))
