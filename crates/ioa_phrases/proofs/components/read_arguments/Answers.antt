use Rattle.std.proofs.Common.{◌∙◌, ◌++◌, [], ap, sym, map, true, append-nil}
use Rattle.ioa_tokens.specs.Tokens.{toks_of}
use Rattle.ioa_trees.specs.Nodes.{component, make}
use Rattle.ioa_trees.specs.Grammar.{outside}
use Rattle.ioa_phrases.specs.Machine.{go, have}
use Rattle.ioa_trees.specs.Spelling.{arguments_node}
use Rattle.ioa_trees.specs.Views.{view}
use Rattle.ioa_phrases.proofs.Moves.{no_arguments}
use Rattle.ioa_phrases.proofs.components.read_arguments.Goals as goal

pub returns-in_default-clause-perhaps : goal.returns-in_default-clause-perhaps
returns-in_default-clause-perhaps c = λ done k d l.
    let ts = toks_of c.args.tokens.now in
    no_arguments component done outside [] k ts c.in_default.ensures.cases
    ∙ (ap (λ z. go true (have (make component z) k) ts) (sym (append-nil done))
    ∙ ap (λ z. go true (have (make component (done ++ arguments_node (map view z))) k) ts) (sym c.new.ensures.items))
