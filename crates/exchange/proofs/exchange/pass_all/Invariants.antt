use Rattle.std.proofs.Common.{◌≡◌, ◌≤◌, ◌<◌, ◌*◌, ℕ, length}
use Rattle.std.specs.Prelude.{slice_get, option_map, Some}
use Rattle.event_keys.specs.Ranks.{rank_of_bound}
use Rattle.virtual_time.specs.Reference.{point, turns_of}
use Rattle.task_seed.specs.Setups.{system}
use Rattle.rollback.specs.ComponentView.{machine_of}
use Rattle.exchange.specs.declared.stub.Stub.{Stub}
use Rattle.exchange.specs.ExchangeView.{passing, IsPassing}
use Rattle.exchange.proofs.exchange.pass_all.Given as goal

abbrev pub invariant-loop-i : goal.invariant-loop-i
invariant-loop-i g l =
    let s = system g.T.Turns.turn_of l.setup in
    let b = rank_of_bound l.bound in
    record {
      items : length l.walks ≡ length l.initial.walks;
      many : length l.stubs ≡ length l.initial.stubs;
      done : (j : ℕ) → j < l.i → slice_get l.stubs j ≡ option_map (passing s b j) (slice_get l.initial.stubs j);
      rest : (j : ℕ) → l.i ≤ j → slice_get l.stubs j ≡ slice_get l.initial.stubs j;
      passed : (j : ℕ) (stub : Stub) → j < l.i → slice_get l.stubs j ≡ Some stub → IsPassing s b j stub;
      count : l.count ≡ turns_of (point (machine_of g.T.Turns.turn_of l.setup) b) l.i;
      few : l.count ≤ l.i * 4294967296;
    }
