use Rattle.std.proofs.Common.{◌∙◌, ◌++◌, [], ap, sym, map, true, append-nil, string_bytes}
use Rattle.ioa_tokens.specs.Tokens.{toks_of}
use Rattle.ioa_trees.specs.Nodes.{source}
use Rattle.ioa_trees.specs.Grammar.{outside}
use Rattle.ioa_phrases.specs.Machine.{Bottom, at, go}
use Rattle.ioa_trees.specs.Spelling.{hidden_node}
use Rattle.ioa_phrases.proofs.Moves.{no_hidden}
use Rattle.ioa_phrases.proofs.source.read_hidden.Goals as goal

pub returns-in_default-clause-goes : goal.returns-in_default-clause-goes
returns-in_default-clause-goes c = λ done.
    let ts = toks_of c.args.tokens.now in
    no_hidden source done outside [] Bottom ts c.in_default.ensures.cases
    ∙ (ap (λ z. go true (at source z [] Bottom) ts) (sym (append-nil done))
    ∙ ap (λ z. go true (at source (done ++ hidden_node (map string_bytes z)) [] Bottom) ts) (sym c.new.ensures.items))
