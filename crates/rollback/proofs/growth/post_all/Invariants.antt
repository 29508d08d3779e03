use Rattle.std.proofs.Common.{◌≡◌, length}
use Rattle.rollback.specs.Post.{post_all}
use Rattle.rollback.proofs.growth.post_all.Given as goal

abbrev pub invariant-loop-cell : goal.invariant-loop-cell
invariant-loop-cell l = post_all l.cells.before l.out ≡ post_all l.initial.cells.before l.initial.out

abbrev pub decreases-loop-cell : goal.decreases-loop-cell
decreases-loop-cell l = length l.cells.before
