use Rattle.std.proofs.Common.{◌∙◌, ◌∷◌, []}
use Rattle.ioa_tokens.specs.declared.Word.TheVariants as w
use Rattle.ioa_tokens.specs.Tokens.{toks_of}
use Rattle.ioa_trees.specs.Nodes.{states}
use Rattle.ioa_trees.specs.Grammar.{outside}
use Rattle.ioa_trees.specs.Spelling.{key}
use Rattle.ioa_phrases.specs.Items.{listed}
use Rattle.ioa_phrases.specs.Blocks.{variable_item, variable_part_item}
use Rattle.ioa_phrases.proofs.Moves.{no_variable_part}
use Rattle.ioa_phrases.proofs.blocks.read_variable_list.Goals as goal

pub returns-clause-gives : goal.returns-clause-gives
returns-clause-gives c = λ k d l.
    c.loop-after.invariant.reads k d l
    ∙ no_variable_part states (key w.States ∷ listed variable_item variable_part_item c.loop-after.all.items) outside [] k (toks_of c.loop-after.rest.now) c.in_default.ensures.cases
