-- A counted writer's writer, and its failures.
use Rattle.std.specs.Prelude.{ℕ, ◌+◌, ◌-◌, ◌^◌, min, Bool, true, List, length, nat_lt, ◌&&◌, ◌==◌, if◌then◌else◌, Result, Ok, Err}
use Rattle.trace.specs.declared.counted.Counted.{Counted}

-- the writer
abbrev pub writer_of : {W : Type 0} → Counted W → W
writer_of counted = counted.writer

-- how many writes have failed
abbrev pub failures_of : {W : Type 0} → Counted W → ℕ
failures_of counted = counted.failures

-- whether a write failed: it gave an error, or took 0 bytes of a nonempty piece
abbrev pub is_failure : {E : Type 0} → Result ℕ E → List ℕ → Bool
is_failure (Ok taken) piece = taken == 0 && nat_lt 0 (length piece)
is_failure (Err error) piece = true

-- a count of failures after one more, up to the greatest number of 64 bits
abbrev pub one_more : ℕ → ℕ
one_more failures = min (failures + 1) (2 ^ 64 - 1)

-- a count of failures after a write
abbrev pub failures_after : ℕ → Bool → ℕ
failures_after failures failed = if failed then one_more failures else failures
