use Rattle.std.specs.Prelude.{IfSome}
use Rattle.compose.specs.Composed.{IsComposed}
use Rattle.hunt.specs.Hunts.{AllLack}
use Rattle.hunt.specs.Seeds.{hunted}
use Rattle.hunt.proofs.searching.search_part.Given as goal

abbrev pub invariant-loop-seed : goal.invariant-loop-seed
invariant-loop-seed g l = record {
  lack : AllLack (hunted l.source l.action l.course) l.from l.seed;
  kept : IfSome l.kept (IsComposed l.source);
}
