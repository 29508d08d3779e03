use Rattle.std.proofs.Common.{◌∙◌, ◌++◌}
use Rattle.ioa_tokens.specs.Tokens.{toks_of}
use Rattle.ioa_trees.specs.Grammar.{outside}
use Rattle.ioa_phrases.specs.Items.{names_nodes}
use Rattle.ioa_phrases.proofs.Moves.{no_name_part}
use Rattle.ioa_phrases.proofs.names.read_names.Goals as goal

pub returns-clause-gives : goal.returns-clause-gives
returns-clause-gives c = λ z done ps k.
    c.loop-after.invariant.reads z done ps k
    ∙ no_name_part z (done ++ names_nodes c.loop-after.all.items) outside ps k (toks_of c.loop-after.rest.now) c.in_default.ensures.cases
