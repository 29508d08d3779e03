use Rattle.std.specs.Prelude.{IfSome}
use Rattle.compose.specs.Composed.{IsComposed}
use Rattle.hunt.specs.Hunts.{AreTaken}
use Rattle.hunt.specs.Seeds.{hunted}
use Rattle.hunt.proofs.sharing.take_parts.Given as goal

abbrev pub invariant-loop : goal.invariant-loop
invariant-loop g l = record {
  taken : AreTaken (hunted l.source l.action l.course) l.parts.items;
  kept : IfSome l.kept (IsComposed l.source);
}
