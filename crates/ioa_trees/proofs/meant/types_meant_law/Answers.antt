use Rattle.ioa_trees.proofs.TypesMeant.{kind_if}
use Rattle.ioa_trees.proofs.meant.types_meant_law.Goals as goal

pub returns : goal.returns
returns c = record { meant = kind_if }
