use Rattle.std.proofs.Common.{◌≡◌, [], map, reverse}
use Rattle.rollback.specs.Post.{signed_to}
use Rattle.rollback.proofs.growth.signed_cells.Given as goal

abbrev pub invariant-loop-receiver : goal.invariant-loop-receiver
invariant-loop-receiver l = l.cells ≡ record { before = map (signed_to l.sign l.key l.action) (reverse l.yielded); after = [] }
