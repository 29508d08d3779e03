use Rattle.std.proofs.Common.{ℕ, All, take}
use Rattle.plans.specs.Plans.{composition}
use Rattle.task_seed.specs.Faults.{HasFault}
use Rattle.task_seed.proofs.table_turns.check_rows.Given as goal

abbrev pub invariant-loop-k : goal.invariant-loop-k
invariant-loop-k l = All (λ row. (number : ℕ) → HasFault (composition l.plan) row number → ⊥) (take l.k l.rows)
