use Rattle.std.proofs.Common.{◌≡◌, ◌≤◌, ◌<◌, ◌*◌, ℕ, length}
use Rattle.std.specs.Prelude.{slice_get, option_map, Some}
use Rattle.event_keys.specs.Ranks.{rank_of_bound}
use Rattle.virtual_time.specs.Reference.{point, turns_of}
use Rattle.task_seed.specs.Setups.{system}
use Rattle.rollback.specs.ComponentView.{machine_of}
use Rattle.group_exchange.specs.declared.passage.Passage.{Passage}
use Rattle.group_exchange.specs.ExchangeView.{passing, IsPassing}
use Rattle.group_exchange.proofs.committing.pass_all.Given as goal

abbrev pub invariant-loop-i : goal.invariant-loop-i
invariant-loop-i g l =
    let s = system g.T.Turns.turn_of l.setup in
    let b = rank_of_bound l.bound in
    record {
      items : length l.walks ≡ length l.initial.walks;
      many : length l.passages ≡ length l.initial.passages;
      done : (j : ℕ) → j < l.i → slice_get l.passages j ≡ option_map (passing s b j) (slice_get l.initial.passages j);
      rest : (j : ℕ) → l.i ≤ j → slice_get l.passages j ≡ slice_get l.initial.passages j;
      passed : (j : ℕ) (p : Passage) → j < l.i → slice_get l.passages j ≡ Some p → IsPassing s b j p;
      count : l.count ≡ turns_of (point (machine_of g.T.Turns.turn_of l.setup) b) l.i;
      few : l.count ≤ l.i * 4294967296;
    }
