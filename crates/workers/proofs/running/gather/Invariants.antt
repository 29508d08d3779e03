use Rattle.std.proofs.Common.{◌≡◌, ◌≤◌, All, length}
use Rattle.gvt.specs.Seats.{IsSeatOf}
use Rattle.workers.specs.Crews.{AreHeld, IsOfAll}
use Rattle.workers.proofs.running.gather.Given as goal

abbrev pub invariant-loop-pass : goal.invariant-loop-pass
invariant-loop-pass g l = record {
  held : AreHeld g.T.Turns.turn_of l.board l.passes.items l.leases.items;
  seats : All (IsSeatOf l.published) l.seats.items;
  many : length l.leases.items ≡ length l.passes.items;
  many_seats : length l.passes.items ≤ length l.seats.items;
  crew : All (IsOfAll g.T.Turns.turn_of l.board l.published) l.crew.items;
}

abbrev pub decreases-loop-pass : goal.decreases-loop-pass
decreases-loop-pass g l = length l.passes.items
