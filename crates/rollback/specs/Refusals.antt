-- The numbers of the refusals.
use Rattle.std.specs.Prelude.{ℕ}
use Rattle.rollback.specs.declared.refused.ProcessRefused.{ProcessRefused}
use Rattle.rollback.specs.declared.refused.ProcessRefused.TheVariants.{NoMemory, NothingPending}

-- the number of a refused step
abbrev pub process_number : ProcessRefused → ℕ
process_number NoMemory = 1
process_number NothingPending = 31
