use Rattle.std.proofs.Common.{◌∙◌, ◌++◌, ap, sym, map, true, append-nil}
use Rattle.ioa_tokens.specs.Tokens.{toks_of}
use Rattle.ioa_trees.specs.Nodes.{basic}
use Rattle.ioa_trees.specs.Grammar.{outside}
use Rattle.ioa_phrases.specs.Machine.{go, at}
use Rattle.ioa_trees.specs.Spelling.{states_node}
use Rattle.ioa_phrases.specs.Blocks.{after_states}
use Rattle.ioa_trees.specs.Views.{view_variable}
use Rattle.ioa_phrases.proofs.Moves.{no_states}
use Rattle.ioa_phrases.proofs.blocks.read_states.Goals as goal

pub returns-in_default-clause-perhaps : goal.returns-in_default-clause-perhaps
returns-in_default-clause-perhaps c = λ done k d l.
    let ts = toks_of c.args.tokens.now in
    no_states basic done outside after_states k ts c.in_default.ensures.cases
    ∙ (ap (λ z. go true (at basic z after_states k) ts) (sym (append-nil done))
    ∙ ap (λ z. go true (at basic (done ++ states_node (map view_variable z)) after_states k) ts) (sym c.new.ensures.items))
