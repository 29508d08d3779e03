-- What became of a text that is written.
use Rattle.std.specs.Prelude.{◌≡◌, ℕ, ◌<◌, List, length, take, Option}
use Rattle.std.specs.Io.KnownBytes.{Appends}
use Rattle.trace.specs.declared.counted.Counted.{Counted}
use Rattle.trace.specs.Counts.{writer_of, failures_of, one_more}

-- the text went out, and no write failed
pub record IsWritten {W : Type 0} (known : W → Option (List ℕ)) (old new : Counted W) (text : List ℕ) : Type 0 where
  pub bytes : Appends (known (writer_of old)) (known (writer_of new)) text
  pub failures : failures_of new ≡ failures_of old

-- one write failed when just so many bytes of the text, and not all, had gone out
pub record IsStopped {W : Type 0} (known : W → Option (List ℕ)) (old new : Counted W) (text : List ℕ) (written : ℕ) : Type 0 where
  pub short : written < length text
  pub bytes : Appends (known (writer_of old)) (known (writer_of new)) (take written text)
  pub failures : failures_of new ≡ one_more (failures_of old)
