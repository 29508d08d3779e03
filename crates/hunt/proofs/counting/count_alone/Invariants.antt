use Rattle.std.proofs.Common.{◌≤◌, ◌-◌}
use Rattle.std.specs.Prelude.{IfSome}
use Rattle.compose.specs.Composed.{IsComposed}
use Rattle.hunt.specs.Hunts.{IsCount}
use Rattle.hunt.specs.Seeds.{hunted}
use Rattle.hunt.proofs.counting.count_alone.Given as goal

abbrev pub invariant-loop-seed : goal.invariant-loop-seed
invariant-loop-seed g l = record {
  above : l.from ≤ l.seed;
  below : l.seed ≤ l.end;
  are : IsCount (hunted l.source l.action l.course) l.from l.seed l.count;
  few : l.count ≤ l.seed - l.from;
  kept : IfSome l.kept (IsComposed l.source);
}
