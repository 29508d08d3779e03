-- What a flush does.
use Rattle.std.specs.Prelude.{◌≡◌, ℕ, Bool, true, false, List, Option}
use Rattle.std.specs.Io.KnownBytes.{Keeps}
use Rattle.trace.specs.declared.counted.Counted.{Counted}
use Rattle.trace.specs.Counts.{writer_of, failures_of}

-- all that went out stays so, and no more writes failed
pub record IsFlushed {W : Type 0} (known : W → Option (List ℕ)) (old new : Counted W) : Type 0 where
  pub bytes : Keeps (known (writer_of old)) (known (writer_of new))
  pub failures : failures_of new ≡ failures_of old

-- the writer is flushed, or else nothing happens to it
abbrev pub IsFlushedWhere : {W : Type 0} → (W → Option (List ℕ)) → Bool → Counted W → Counted W → Type 0
IsFlushedWhere known true old new = IsFlushed known old new
IsFlushedWhere known false old new = new ≡ old
