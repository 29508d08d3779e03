use Rattle.std.proofs.Common.{◌≤◌, ◌<◌, ◌-◌}
use Rattle.hunt.specs.Hunts.{IsPart}
use Rattle.hunt.specs.Seeds.{hunted}
use Rattle.hunt.proofs.sharing.look_through.Given as goal

abbrev pub invariant-loop-at : goal.invariant-loop-at
invariant-loop-at g l = record {
  above : l.first ≤ l.at;
  below : l.at ≤ l.end;
  some : 0 < l.size;
  few : l.size ≤ 2046;
  part : IsPart (hunted l.source l.action l.course) l.first l.at l.all;
}

abbrev pub decreases-loop-at : goal.decreases-loop-at
decreases-loop-at g l = l.end - l.at
