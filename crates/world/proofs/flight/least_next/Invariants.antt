use Rattle.std.proofs.Common.{◌≡◌, ◌≤◌, ◌^◌, drop, min}
use Rattle.event_keys.specs.Ranks.{rank_of_bound}
use Rattle.world.specs.Times.{least_next}
use Rattle.world.proofs.flight.least_next.Given as goal

abbrev pub invariant-loop-component : goal.invariant-loop-component
invariant-loop-component g l =
    record {
      least : min (rank_of_bound l.least) (least_next g.T.Turns.turn_of (drop l.component-index l.fn.components)) ≡ least_next g.T.Turns.turn_of l.fn.components;
      end : rank_of_bound l.least ≤ 2 ^ 144;
    }
