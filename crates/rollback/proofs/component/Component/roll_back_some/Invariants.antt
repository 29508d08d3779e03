use Rattle.std.proofs.Common.{◌≡◌, ◌-◌, ℕ, take}
use Rattle.event_keys.specs.declared.message.Sign.TheVariants.{Plus, Minus}
use Rattle.virtual_time.specs.Records.{roll_back_times, unsent}
use Rattle.rollback.specs.Flight.{in_flight}
use Rattle.rollback.specs.ComponentView.{machine_of}
use Rattle.rollback.proofs.component.Component.roll_back_some.Given as goal

abbrev pub invariant-loop-k : goal.invariant-loop-k
invariant-loop-k g l =
    let m = machine_of g.T.Turns.turn_of l.initial.self.setup in
    record {
      rest : l.self ≡ record l.initial.self { history = l.self.history };
      history : roll_back_times m (l.count - l._k) l.self.history ≡ roll_back_times m l.count l.initial.self.history;
      there : (j : ℕ) → unsent m l.initial.self.number (take (l.count - l._k) l.self.history.done) j (in_flight Minus j l.out) ≡ unsent m l.initial.self.number (take l.count l.initial.self.history.done) j (in_flight Minus j l.initial.out);
      other : (j : ℕ) → in_flight Plus j l.out ≡ in_flight Plus j l.initial.out;
    }
