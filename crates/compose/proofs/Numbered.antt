-- The numbers of refused sources.
use Rattle.std.specs.Prelude.{◌≡◌, ◌≤◌, ◌⊎◌, refl}
use Rattle.std.proofs.Common.{inl, inr, arith}
use Rattle.ioa_front.specs.declared.fault.ReadError.TheVariants as read
use Rattle.ioa_check.specs.declared.fault.CheckError.TheVariants as check
use Rattle.compose.specs.declared.fault.ComposeError.TheVariants as compose
use Rattle.compose.specs.declared.source_error.SourceError.{SourceError}
use Rattle.compose.specs.declared.source_error.SourceError.TheVariants as fault
use Rattle.compose.specs.Refusals.{source_number}

pub numbered : (e : SourceError) → (source_number e ≡ 1) ⊎ (((2 ≤ source_number e) × (source_number e ≤ 25)) ⊎ (source_number e ≡ 36))
numbered (fault.Read read.NoMemory) = inl refl
numbered (fault.Read (read.NotAscii at)) = inr (inl (omega arith, omega arith))
numbered (fault.Read (read.BadToken at)) = inr (inl (omega arith, omega arith))
numbered (fault.Read (read.Syntax at)) = inr (inl (omega arith, omega arith))
numbered (fault.Read read.TooLarge) = inr (inl (omega arith, omega arith))
numbered (fault.Read read.TooDeep) = inr (inl (omega arith, omega arith))
numbered (fault.Check check.NoMemory) = inl refl
numbered (fault.Check (check.UnknownName at)) = inr (inl (omega arith, omega arith))
numbered (fault.Check (check.DoubleName at)) = inr (inl (omega arith, omega arith))
numbered (fault.Check (check.WrongType at)) = inr (inl (omega arith, omega arith))
numbered (fault.Check (check.NoTransition at)) = inr (inl (omega arith, omega arith))
numbered (fault.Check (check.DoubleTransition at)) = inr (inl (omega arith, omega arith))
numbered (fault.Check (check.InputWithPre at)) = inr (inl (omega arith, omega arith))
numbered (fault.Check (check.TasksNotAPartition at)) = inr (inl (omega arith, omega arith))
numbered (fault.Check (check.OverLimit at)) = inr (inl (omega arith, omega arith))
numbered (fault.Compose compose.NoMemory) = inl refl
numbered (fault.Compose (compose.NoSuchAutomaton at)) = inr (inl (omega arith, omega arith))
numbered (fault.Compose (compose.OwnOverlap at)) = inr (inl (omega arith, omega arith))
numbered (fault.Compose (compose.InternalShared at)) = inr (inl (omega arith, omega arith))
numbered (fault.Compose (compose.OutputShared at)) = inr (inl (omega arith, omega arith))
numbered (fault.Compose (compose.ShapeDiffers at)) = inr (inl (omega arith, omega arith))
numbered (fault.Compose compose.TooManyComponents) = inr (inl (omega arith, omega arith))
numbered (fault.Compose (compose.NotAnOutput at)) = inr (inr refl)
