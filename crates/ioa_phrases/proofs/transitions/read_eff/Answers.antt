use Rattle.std.proofs.Common.{◌∙◌, ◌++◌, [], ap, sym, true, append-nil}
use Rattle.ioa_tokens.specs.Tokens.{toks_of}
use Rattle.ioa_trees.specs.Nodes.{transition, make}
use Rattle.ioa_trees.specs.Grammar.{outside}
use Rattle.ioa_phrases.specs.Machine.{go, have}
use Rattle.ioa_trees.specs.Spelling.{eff_node}
use Rattle.ioa_trees.specs.Views.{view_statements}
use Rattle.ioa_phrases.proofs.Moves.{no_eff_part}
use Rattle.ioa_phrases.proofs.transitions.read_eff.Goals as goal

pub returns-in_default-clause-perhaps : goal.returns-in_default-clause-perhaps
returns-in_default-clause-perhaps c = λ done k d l.
    let ts = toks_of c.args.tokens.now in
    no_eff_part transition done outside [] k ts c.in_default.ensures.cases
    ∙ (ap (λ z. go true (have (make transition z) k) ts) (sym (append-nil done))
    ∙ ap (λ z. go true (have (make transition (done ++ eff_node (view_statements z))) k) ts) (sym c.new.ensures.items))
