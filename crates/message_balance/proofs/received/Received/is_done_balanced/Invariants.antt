use Rattle.std.proofs.Common.{◌≡◌, length}
use Rattle.std.specs.List.{list_all}
use Rattle.message_balance.specs.Balance.{all_of, is_input_balanced}
use Rattle.message_balance.proofs.received.Received.is_done_balanced.Given as goal

abbrev pub invariant-loop-done : goal.invariant-loop-done
invariant-loop-done l = list_all (is_input_balanced l.self) l.items ≡ list_all (is_input_balanced l.self) (all_of l.self.done.now)

abbrev pub decreases-loop-done : goal.decreases-loop-done
decreases-loop-done l = length l.items
