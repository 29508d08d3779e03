use Rattle.std.proofs.Common.{◌∙◌, []}
use Rattle.ioa_trees.specs.Spelling.{source_node}
use Rattle.ioa_trees.specs.Views.{view_source}
use Rattle.ioa_phrases.proofs.Rows.{left_over}
use Rattle.ioa_phrases.proofs.source.read_source.Goals as goal

pub returns-else-is_empty : goal.returns-else-is_empty
returns-else-is_empty c = record { exact = c.in_ok-source.ensures.goes [] ∙ left_over (source_node (view_source c.in_ok-source.source)) c.in_ok-source.rest.now c.is_empty.result c.is_empty.ensures c.if-is_empty.false }
