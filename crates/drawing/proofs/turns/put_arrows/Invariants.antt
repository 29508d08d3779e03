use Rattle.std.proofs.Common.{◌≡◌, ◌++◌, length}
use Rattle.drawing.specs.Turns.{arrows_text}
use Rattle.drawing.proofs.turns.put_arrows.Given as goal

abbrev pub invariant-loop-receiver : goal.invariant-loop-receiver
invariant-loop-receiver l = l.text.items ++ arrows_text l.y l.from l.rest ≡ l.initial.text.items ++ arrows_text l.y l.from l.receivers

abbrev pub decreases-loop-receiver : goal.decreases-loop-receiver
decreases-loop-receiver l = length l.rest
