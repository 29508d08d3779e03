use Rattle.std.proofs.Common.{◌≡◌, length, take}
use Rattle.patterns.specs.Patterns.{AreRising, Keeps}
use Rattle.patterns.proofs.Noted.{Passed}
use Rattle.patterns.proofs.index.Index.note_component.Given as goal

abbrev pub invariant-loop-entry : goal.invariant-loop-entry
invariant-loop-entry l = record {
  many : length l.self.numbers ≡ length l.initial.self.numbers;
  rising : AreRising l.initial.self.numbers → AreRising l.self.numbers;
  kept : Keeps l.initial.self l.self;
  noted : Passed l.every l.self l.component.formals.items l.j (take l.entry-index l.entry-items);
}
