use Rattle.std.proofs.Common.{◌∙◌, ap, sym, map, true}
use Rattle.ioa_tokens.specs.Tokens.{toks_of}
use Rattle.ioa_trees.specs.Nodes.{basic}
use Rattle.ioa_trees.specs.Grammar.{after_signature}
use Rattle.ioa_phrases.specs.Machine.{go, at, Want}
use Rattle.ioa_trees.specs.Views.{view_declared}
use Rattle.ioa_phrases.specs.Blocks.{head_nodes}
use Rattle.ioa_phrases.proofs.Heads.{bare_head}
use Rattle.ioa_phrases.proofs.blocks.read_head.Goals as goal

pub returns-clause-gives : goal.returns-clause-gives
returns-clause-gives c = λ k d.
    ap (λ z. go true (Want basic k) z) c.in_ok-rest.ensures.cases
    ∙ (bare_head k (toks_of c.in_ok-rest.rest.now) d
    ∙ ap (λ z. go true (at basic (head_nodes (map view_declared z)) after_signature k) (toks_of c.in_ok-rest.rest.now)) (sym c.new.ensures.items))
