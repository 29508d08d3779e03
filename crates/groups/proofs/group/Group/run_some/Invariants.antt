use Rattle.std.proofs.Common.{◌≡◌}
use Rattle.groups.specs.Moves.{IsAhead}
use Rattle.groups.specs.Windows.{KeepsWindow}
use Rattle.groups.proofs.group.Group.run_some.Given as goal

abbrev pub invariant-loop-count : goal.invariant-loop-count
invariant-loop-count g l =
    record {
      ahead : IsAhead g.T.Turns.turn_of l.initial.self l.self l.count;
      window : KeepsWindow l.initial.self l.self;
      start : l.count ≡ 0 → l.self ≡ l.initial.self;
    }
