use Rattle.ioa_trees.proofs.ValuesMeant.{put_if}
use Rattle.ioa_trees.proofs.meant.values_meant_law.Goals as goal

pub returns : goal.returns
returns c = record { meant = put_if }
