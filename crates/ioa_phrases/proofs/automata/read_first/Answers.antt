use Rattle.std.proofs.Common.{◌∙◌, ◌++◌, ◌∷◌, [], ap, sym, true, refl, string_bytes, append_assoc}
use Rattle.ioa_tokens.specs.declared.Word.TheVariants as w
use Rattle.ioa_tokens.specs.Tokens.{toks_of}
use Rattle.ioa_trees.specs.Nodes.{source, basic}
use Rattle.ioa_trees.specs.Grammar.{token, name, one, outside}
use Rattle.ioa_phrases.specs.Machine.{Bottom, At, go, at}
use Rattle.ioa_trees.specs.Spelling.{basic_node, key, named}
use Rattle.ioa_trees.specs.Views.{view_automaton}
use Rattle.ioa_phrases.specs.Blocks.{automata_parts, further_parts, next_parts}
use Rattle.ioa_phrases.proofs.automata.read_first.Goals as goal

pub returns-clause-goes : goal.returns-clause-goes
returns-clause-goes c = λ done.
    let b = string_bytes c.in_ok-name.name in
    let so = done ++ key w.Automaton ∷ [] in
    let tail = basic_node (view_automaton c.in_ok-automaton.automaton) ∷ (key w.Automaton ∷ (named (string_bytes c.in_ok-automaton.next) ∷ [])) in
    let left = toks_of c.in_ok-automaton.rest.now in
    ap (λ q. go true (At source done automata_parts Bottom) q) c.in_ok-rest.ensures.cases
    ∙ (ap (λ q. go true (At source so (token name outside ∷ (one basic outside ∷ next_parts further_parts)) Bottom) q) c.in_ok-name.ensures.cases
    ∙ (c.in_ok-automaton.ensures.gives source (so ++ named b ∷ []) further_parts Bottom refl
    ∙ (ap (λ q. go true (at source q further_parts Bottom) left) (append_assoc so (named b ∷ []) tail ∙ append_assoc done (key w.Automaton ∷ []) (named b ∷ tail))
    ∙ ap (λ q. go true (at source (done ++ (key w.Automaton ∷ (named q ∷ tail))) further_parts Bottom) left) (sym c.in_ok-automaton.ensures.named))))
