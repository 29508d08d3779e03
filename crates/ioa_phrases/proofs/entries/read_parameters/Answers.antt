use Rattle.std.proofs.Common.{◌∙◌, ◌++◌, [], ap, sym, map, true, append-nil}
use Rattle.ioa_tokens.specs.Tokens.{toks_of}
use Rattle.ioa_trees.specs.Nodes.{entry, make}
use Rattle.ioa_trees.specs.Grammar.{outside}
use Rattle.ioa_phrases.specs.Machine.{go, have}
use Rattle.ioa_trees.specs.Spelling.{parameters_node}
use Rattle.ioa_trees.specs.Views.{view_parameter}
use Rattle.ioa_phrases.proofs.Moves.{no_parameters}
use Rattle.ioa_phrases.proofs.entries.read_parameters.Goals as goal

pub returns-in_default-clause-perhaps : goal.returns-in_default-clause-perhaps
returns-in_default-clause-perhaps c = λ done k d l.
    let ts = toks_of c.args.tokens.now in
    no_parameters entry done outside [] k ts c.in_default.ensures.cases
    ∙ (ap (λ z. go true (have (make entry z) k) ts) (sym (append-nil done))
    ∙ ap (λ z. go true (have (make entry (done ++ parameters_node (map view_parameter z))) k) ts) (sym c.new.ensures.items))
