use Rattle.std.proofs.Common.{◌≡◌, ◌⊎◌, inl, inr, min, ap, arith}
use Rattle.event_keys.specs.Ranks.{rank_of_bound}
use Rattle.world.proofs.Timing.{least_starts, least_steps, least_stops}
use Rattle.world.proofs.flight.least_next.Goals as goal

pub loop-component-init : goal.loop-component-init
loop-component-init g c = record { least = least_starts g.T.Turns.turn_of c.args.components.now; end = omega arith }

pub loop-component-preserved : goal.loop-component-preserved
loop-component-preserved g c =
    let first = c.lesser-least.ensures.first in
    let second = c.lesser-least.ensures.second in
    let end = c.loop-component.invariant.end in
    record {
      least = least_steps g.T.Turns.turn_of c.args.components.now c.loop-component.component-index c.component-item.result (rank_of_bound c.loop-component.least) (rank_of_bound c.next.result) (rank_of_bound c.lesser-least.result) c.component-item.is c.loop-component-test.true c.next.ensures (least_is c.lesser-least.ensures.either) c.loop-component.invariant.least;
      end = omega (arith, first, end);
    }
  where
    least_is : (c.lesser-least.result ≡ c.loop-component.least) ⊎ (c.lesser-least.result ≡ c.next.result) → rank_of_bound c.lesser-least.result ≡ min (rank_of_bound c.loop-component.least) (rank_of_bound c.next.result)
    least_is (inl e) = let is = ap rank_of_bound e in let second = c.lesser-least.ensures.second in omega (arith, is, second)
    least_is (inr e) = let is = ap rank_of_bound e in let first = c.lesser-least.ensures.first in omega (arith, is, first)

pub returns : goal.returns
returns g c = least_stops g.T.Turns.turn_of c.args.components.now c.loop-component.component-index (rank_of_bound c.loop-component.least) c.loop-component-test.false c.loop-component.invariant.end c.loop-component.invariant.least
