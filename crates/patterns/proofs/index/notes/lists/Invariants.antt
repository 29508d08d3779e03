use Rattle.std.proofs.Common.{◌<◌, length}
use Rattle.patterns.specs.Patterns.{AreRising}
use Rattle.patterns.proofs.index.notes.lists.Given as goal

abbrev pub invariant-loop : goal.invariant-loop
invariant-loop l = record {
  some : 0 < length l.lists.items;
  rising : AreRising l.lists.items;
}
