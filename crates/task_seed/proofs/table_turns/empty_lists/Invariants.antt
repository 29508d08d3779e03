use Rattle.std.proofs.Common.{◌≡◌, ℕ, [], vec_len}
use Rattle.task_seed.specs.Rows.{turns_at}
use Rattle.task_seed.proofs.table_turns.empty_lists.Given as goal

abbrev pub invariant-loop : goal.invariant-loop
invariant-loop l = record {
  len : vec_len l.lists ≡ l.counter;
  empty : (i : ℕ) → turns_at l.lists.items i ≡ [];
}
