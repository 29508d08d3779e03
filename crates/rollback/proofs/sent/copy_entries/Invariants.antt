use Rattle.std.proofs.Common.{◌≡◌, ℕ, length}
use Rattle.event_keys.specs.declared.message.Sign.TheVariants.{Plus, Minus}
use Rattle.message_balance.specs.Balance.{all_of}
use Rattle.virtual_time.specs.Records.{unsent}
use Rattle.rollback.specs.ComponentInvariant.{entries_of}
use Rattle.rollback.specs.ComponentView.{machine_of}
use Rattle.rollback.specs.Flight.{in_flight}
use Rattle.rollback.proofs.sent.copy_entries.Given as goal

abbrev pub invariant-loop-done : goal.invariant-loop-done
invariant-loop-done g l =
    let m = machine_of g.T.Turns.turn_of l.setup in
    record {
      there : (j : ℕ) → unsent m l.i (entries_of l.items) j (in_flight Plus j l.sent) ≡ unsent m l.i (entries_of (all_of l.entries)) j (in_flight Plus j l.initial.sent);
      other : (j : ℕ) → in_flight Minus j l.sent ≡ in_flight Minus j l.initial.sent;
    }

abbrev pub decreases-loop-done : goal.decreases-loop-done
decreases-loop-done g l = length l.items
