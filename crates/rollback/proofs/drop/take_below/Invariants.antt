use Rattle.std.proofs.Common.{◌≡◌, ◌+◌, ◌++◌, [], length}
use Rattle.event_keys.specs.Ranks.{rank_of_bound}
use Rattle.rollback.specs.Dropped.{dones_below, dones_from, newest_key, turns_in}
use Rattle.rollback.specs.Falling.{Falls}
use Rattle.rollback.specs.ComponentInvariant.{entries_of}
use Rattle.rollback.proofs.Oldest.{newest_or}
use Rattle.rollback.proofs.drop.take_below.Given as goal

abbrev pub invariant-loop-cell : goal.invariant-loop-cell
invariant-loop-cell l =
    let c = rank_of_bound l.bound in
    record {
      end : l.done.after ≡ [];
      falling : Falls (entries_of l.done.before);
      left : dones_from c l.done.before ≡ dones_from c l.initial.done.before;
      none : l.dropped.turns.after ≡ [];
      turns : turns_in (dones_below c l.done.before) ++ l.dropped.turns.before ≡ turns_in (dones_below c l.initial.done.before);
      count : l.dropped.count + length (dones_below c l.done.before) ≡ length (dones_below c l.initial.done.before);
      newest : newest_or (dones_below c l.done.before) l.dropped.newest ≡ newest_key (dones_below c l.initial.done.before);
    }

abbrev pub decreases-loop-cell : goal.decreases-loop-cell
decreases-loop-cell l = length l.done.before
