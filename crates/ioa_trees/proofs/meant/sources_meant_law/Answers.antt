use Rattle.ioa_trees.proofs.SourcesMeant.{source_if}
use Rattle.ioa_trees.proofs.meant.sources_meant_law.Goals as goal

pub returns : goal.returns
returns c = record { meant = source_if }
