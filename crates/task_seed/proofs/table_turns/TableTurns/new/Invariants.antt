use Rattle.std.proofs.Common.{◌≡◌, ℕ, take, length, vec_len}
use Rattle.plans.specs.Plans.{composition}
use Rattle.task_seed.specs.Rows.{turns_at, turns_of}
use Rattle.task_seed.proofs.table_turns.TableTurns.new.Given as goal

abbrev pub invariant-loop-row : goal.invariant-loop-row
invariant-loop-row l = record {
  len : vec_len l.turns ≡ length (composition l.plan);
  turns : (i : ℕ) → turns_at l.turns.items i ≡ turns_of (take l.row-index l.rows) i;
}
