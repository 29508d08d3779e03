use Rattle.std.proofs.Common.{◌≡◌, [], length, map}
use Rattle.std.specs.Prelude.{replicate}
use Rattle.std.specs.Arc.{arc_value}
use Rattle.std.specs.List.{range_with_len}
use Rattle.task_seed.specs.Setups.{system}
use Rattle.exchange.specs.Start.{start_stub, start_within}
use Rattle.exchange.proofs.exchange.Exchange.begin.Given as goal

abbrev pub invariant-loop-i : goal.invariant-loop-i
invariant-loop-i g l =
    let t = g.T.Turns.turn_of in
    record {
      stubs : l.stubs.items ≡ map (start_stub (system t (arc_value l.setup))) (range_with_len 0 l.i);
      walks : length l.walks.items ≡ l.i;
      held : l.held.items ≡ replicate l.i [];
      leases : l.leases.items ≡ map (start_within t (arc_value l.setup) l.window) (range_with_len 0 l.i);
    }
