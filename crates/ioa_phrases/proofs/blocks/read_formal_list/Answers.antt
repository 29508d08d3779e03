use Rattle.std.proofs.Common.{◌∙◌, ◌∷◌, ap, sym, true}
use Rattle.ioa_tokens.specs.declared.Word.TheVariants as w
use Rattle.ioa_tokens.specs.Tokens.{toks_of}
use Rattle.ioa_trees.specs.Nodes.{basic}
use Rattle.ioa_trees.specs.Grammar.{token, word, inside, outside}
use Rattle.ioa_phrases.specs.Machine.{At, at, go}
use Rattle.ioa_trees.specs.Spelling.{key}
use Rattle.ioa_phrases.specs.Items.{listed}
use Rattle.ioa_phrases.specs.Blocks.{formal_item, formal_part_item, signature_parts}
use Rattle.ioa_phrases.proofs.Moves.{no_formal_part}
use Rattle.ioa_phrases.proofs.Joins.{formals_made}
use Rattle.ioa_phrases.proofs.blocks.read_formal_list.Goals as goal

pub returns-clause-gives : goal.returns-clause-gives
returns-clause-gives c = λ k d.
    let all = c.loop-after.all.items in
    let so = key w.Open ∷ listed formal_item formal_part_item all in
    let ends = token (word w.Close) outside ∷ signature_parts in
    c.loop-after.invariant.reads k d
    ∙ (no_formal_part basic so inside ends k (toks_of c.loop-after.rest.now) c.in_default.ensures.cases
    ∙ (ap (λ z. go true (At basic so ends k) z) c.in_ok-rest.ensures.cases
    ∙ ap (λ z. go true (at basic z signature_parts k) (toks_of c.in_ok-rest.rest.now)) (sym (formals_made all c.loop-after.invariant.some))))
