use Rattle.std.proofs.Common.{◌≡◌, ◌+◌, [], length}
use Rattle.event_keys.specs.Ranks.{rank_of_bound}
use Rattle.raw_events.specs.Onto.{onto}
use Rattle.group_exchange.specs.Chunks.{first_below, first_from}
use Rattle.group_exchange.proofs.queue.pass_below.Given as goal

abbrev pub invariant-loop-bound : goal.invariant-loop-bound
invariant-loop-bound l =
    let b = rank_of_bound l.bound in
    record {
      front : l.held.before ≡ [];
      back : l.passed.turns.after ≡ [];
      rest : first_from b l.held.after ≡ first_from b l.initial.held.after;
      turns : onto (first_below b l.held.after) l.passed.turns.before ≡ onto (first_below b l.initial.held.after) [];
      count : l.passed.count + length (first_below b l.held.after) ≡ length (first_below b l.initial.held.after);
    }

abbrev pub decreases-loop-bound : goal.decreases-loop-bound
decreases-loop-bound l = length l.held.after
