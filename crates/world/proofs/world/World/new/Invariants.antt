use Rattle.std.proofs.Common.{◌≡◌, map}
use Rattle.std.specs.Arc.{arc_value}
use Rattle.std.specs.List.{range_with_len}
use Rattle.rollback.specs.ComponentView.{start_held}
use Rattle.world.proofs.world.World.new.Given as goal

abbrev pub invariant-loop-i : goal.invariant-loop-i
invariant-loop-i g l = l.components.items ≡ map (start_held g.T.Turns.turn_of (arc_value l.setup)) (range_with_len 0 l.i)
