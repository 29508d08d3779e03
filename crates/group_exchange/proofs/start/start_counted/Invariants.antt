use Rattle.std.proofs.Common.{◌≡◌, [], length, map}
use Rattle.std.specs.Prelude.{replicate}
use Rattle.std.specs.List.{range_with_len}
use Rattle.task_seed.specs.Setups.{system}
use Rattle.group_exchange.specs.Start.{start_passage}
use Rattle.group_exchange.proofs.start.start_counted.Given as goal

abbrev pub invariant-loop-i : goal.invariant-loop-i
invariant-loop-i g l =
    record {
      passages : l.passages.items ≡ map (start_passage (system g.T.Turns.turn_of l.setup)) (range_with_len 0 l.i);
      walks : length l.walks.items ≡ l.i;
      held : l.held.items ≡ replicate l.i [];
    }
