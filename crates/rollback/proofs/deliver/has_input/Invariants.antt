use Rattle.std.proofs.Common.{◌≡◌, length}
use Rattle.rollback.specs.Falling.{Falls}
use Rattle.raw_events.specs.Onto.{onto}
use Rattle.rollback.specs.ComponentInvariant.{entries_of, is_any_input}
use Rattle.rollback.proofs.deliver.has_input.Given as goal

abbrev pub invariant-loop-done : goal.invariant-loop-done
invariant-loop-done l =
    record {
      whole : onto l.done.after l.done.before ≡ l.initial.done.before;
      falling : Falls (entries_of l.done.before);
      any : is_any_input l.antimessage l.done.before ≡ is_any_input l.antimessage l.initial.done.before;
    }

abbrev pub decreases-loop-done : goal.decreases-loop-done
decreases-loop-done l = length l.done.before
