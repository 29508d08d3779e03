use Rattle.std.proofs.Common.{◌≡◌, ℕ, length}
use Rattle.event_keys.specs.declared.message.Sign.TheVariants.{Plus, Minus}
use Rattle.virtual_time.specs.Records.{later, unsent}
use Rattle.rollback.specs.Flight.{item_of, in_flight}
use Rattle.rollback.specs.ComponentView.{machine_of}
use Rattle.rollback.proofs.Unwinding.{unwound}
use Rattle.rollback.proofs.component.Component.unwind_later.Given as goal

abbrev pub invariant-loop-self : goal.invariant-loop-self
invariant-loop-self g l =
    let m = machine_of g.T.Turns.turn_of l.initial.self.setup in
    record {
      setup : l.self.setup ≡ l.initial.self.setup;
      number : l.self.number ≡ l.initial.self.number;
      base : l.self.base ≡ l.initial.self.base;
      history : unwound m l.initial.self.number (item_of l.message) l.self.history ≡ unwound m l.initial.self.number (item_of l.message) l.initial.self.history;
      there : (j : ℕ) → unsent m l.initial.self.number (later m (item_of l.message) l.self.history.done) j (in_flight Minus j l.out) ≡ unsent m l.initial.self.number (later m (item_of l.message) l.initial.self.history.done) j (in_flight Minus j l.initial.out);
      other : (j : ℕ) → in_flight Plus j l.out ≡ in_flight Plus j l.initial.out;
    }

abbrev pub decreases-loop-self : goal.decreases-loop-self
decreases-loop-self g l = length l.self.history.done
