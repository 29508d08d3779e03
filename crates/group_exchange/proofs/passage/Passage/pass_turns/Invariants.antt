use Rattle.std.proofs.Common.{◌≡◌, ◌≤◌, ◌<◌, ◌-◌, ℕ}
use Rattle.std.specs.Prelude.{IfSome}
use Rattle.event_keys.specs.Ranks.{rank_of_bound}
use Rattle.task_seed.specs.Setups.{system}
use Rattle.task_seed.specs.Turning.{key_of}
use Rattle.task_seed.specs.Machines.{turn_rank}
use Rattle.group_exchange.proofs.passage.Passage.pass_turns.Given as goal

abbrev pub invariant-loop-bound : goal.invariant-loop-bound
invariant-loop-bound g l =
    let s = system g.T.Turns.turn_of l.setup in
    record {
      ahead : l.self.ahead ≡ key_of s l.i l.self.passed;
      small : IfSome l.self.ahead (λ key. key.number < 4294967296);
      few : l.self.passed ≤ 4294967296;
      before : (n : ℕ) → n < l.self.passed → turn_rank s l.i n < rank_of_bound l.bound;
    }

abbrev pub decreases-loop-bound : goal.decreases-loop-bound
decreases-loop-bound g l = 4294967296 - l.self.passed
