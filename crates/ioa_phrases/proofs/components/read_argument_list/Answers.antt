use Rattle.std.proofs.Common.{◌∙◌, ◌∷◌, ◌++◌, [], ap, sym, true}
use Rattle.ioa_tokens.specs.declared.Word.TheVariants as w
use Rattle.ioa_tokens.specs.Tokens.{toks_of}
use Rattle.ioa_trees.specs.Nodes.{arguments}
use Rattle.ioa_trees.specs.Grammar.{token, word, inside, outside}
use Rattle.ioa_phrases.specs.Machine.{At, go, have}
use Rattle.ioa_trees.specs.Spelling.{branch, key}
use Rattle.ioa_phrases.specs.Items.{listed, term_item, argument_item}
use Rattle.ioa_phrases.proofs.Moves.{no_argument_part}
use Rattle.ioa_phrases.proofs.Items.{arguments_listed}
use Rattle.ioa_phrases.proofs.components.read_argument_list.Goals as goal

pub returns-clause-gives : goal.returns-clause-gives
returns-clause-gives c = λ k d.
    let all = c.loop-after.all.items in
    let so = key w.Open ∷ listed term_item argument_item all in
    let ends = token (word w.Close) outside ∷ [] in
    c.loop-after.invariant.reads k d
    ∙ (no_argument_part arguments so inside ends k (toks_of c.loop-after.rest.now) c.in_default.ensures.cases
    ∙ (ap (λ z. go true (At arguments so ends k) z) c.in_ok-rest.ensures.cases
    ∙ ap (λ z. go true (have (branch arguments (key w.Open ∷ (z ++ key w.Close ∷ []))) k) (toks_of c.in_ok-rest.rest.now)) (sym (arguments_listed all))))
