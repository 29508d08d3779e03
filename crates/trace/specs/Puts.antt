-- What writing a text does to a counted writer.
use Rattle.std.specs.Prelude.{◌≡◌, ℕ, ◌+◌, ◌-◌, ◌^◌, ◌<◌, min, List, length, take, Option}
use Rattle.std.specs.Io.KnownBytes.{Appends}
use Rattle.trace.specs.declared.counted.Counted.{Counted}
use Rattle.trace.specs.declared.fault.WriteFault.{WriteFault}
use Rattle.trace.specs.declared.fault.WriteFault.TheVariants.{WriteFailed}
use Rattle.trace.specs.Counts.{writer_of, failures_of, one_more}

-- a number of bytes as it is answered: up to the greatest of 64 bits
abbrev pub capped : ℕ → ℕ
capped number = min number (2 ^ 64 - 1)

-- the text went out, no write failed, and a count of bytes grew by its length
pub record Puts {W : Type 0} (known : W → Option (List ℕ)) (old new : Counted W) (before after : ℕ) (text : List ℕ) : Type 0 where
  pub bytes : Appends (known (writer_of old)) (known (writer_of new)) text
  pub failures : failures_of new ≡ failures_of old
  pub count : after ≡ capped (before + length text)

-- the number of a write's fault
abbrev pub written_of : WriteFault → ℕ
written_of (WriteFailed written) = written

-- one write failed when a first part of the text, and not all of it, had gone out; the fault says the count with that part's length
pub record Stops {W : Type 0} (known : W → Option (List ℕ)) (old new : Counted W) (before : ℕ) (text : List ℕ) (fault : WriteFault) : Type 0 where
  pub part : ℕ
  pub short : part < length text
  pub bytes : Appends (known (writer_of old)) (known (writer_of new)) (take part text)
  pub failures : failures_of new ≡ one_more (failures_of old)
  pub count : written_of fault ≡ capped (before + part)
