use Rattle.std.proofs.Common.{◌≡◌, ◌≤◌, length}
use Rattle.std.specs.Vec.Iter.{into_iter_items, into_iter_len}
use Rattle.hunt.specs.Hunts.{AreTaken, IsPart}
use Rattle.hunt.specs.Seeds.{Hunted}
use Rattle.hunt.proofs.sharing.gathered.Given as goal

abbrev pub invariant-loop-taken : goal.invariant-loop-taken
invariant-loop-taken l = record {
  above : l.from ≤ l.at;
  below : l.at ≤ l.end;
  part : (h : Hunted) → AreTaken h (into_iter_items l.initial.taken-iterator) → IsPart h l.from l.at l.all;
  rest : (h : Hunted) → AreTaken h (into_iter_items l.initial.taken-iterator) → AreTaken h (into_iter_items l.taken-iterator);
  left : into_iter_len l.taken-iterator ≡ length (into_iter_items l.taken-iterator);
}
