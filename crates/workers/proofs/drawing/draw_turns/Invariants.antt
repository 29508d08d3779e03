use Rattle.std.proofs.Common.{◌≡◌, []}
use Rattle.workers.specs.Alone.{IsDrawerOf}
use Rattle.workers.proofs.drawing.draw_turns.Given as goal

abbrev pub invariant-loop : goal.invariant-loop
invariant-loop g l = record { own : IsDrawerOf l.relay l.drawer; empty : l.due.items ≡ [] }
