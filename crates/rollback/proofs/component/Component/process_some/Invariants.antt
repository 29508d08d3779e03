use Rattle.std.proofs.Common.{◌≡◌}
use Rattle.rollback.specs.ComponentView.{machine_of}
use Rattle.rollback.specs.Runs.{IsRun}
use Rattle.rollback.proofs.component.Component.process_some.Given as goal

abbrev pub invariant-loop-entries : goal.invariant-loop-entries
invariant-loop-entries g l =
    record {
      rest : l.self ≡ record l.initial.self { history = l.self.history };
      run : IsRun (machine_of g.T.Turns.turn_of l.initial.self.setup) l.initial.self.number l.initial.self.history l.self.history l.initial.out l.out l.entries;
    }
