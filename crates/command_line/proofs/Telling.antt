-- What an error of `clap` says of the words.
use Rattle.std.proofs.Common.{◌≡◌, ◌⊎◌, ◌∙◌, List, inl, inr, subst, sym}
use Rattle.clap.specs.Words.{IsAmong, Text, fault_of}
use Rattle.clap.specs.declared.error.ErrorKind.{ErrorKind}
use Rattle.clap.specs.declared.error.ErrorKind.TheVariants.{OutOfMemory, DisplayHelp, DisplayVersion}
use Rattle.command_line.specs.Words.{warp, IsTold, IsRefused}
use Rattle.command_line.specs.declared.Refused.{Refused}
use Rattle.command_line.specs.declared.Refused.TheVariants.{NoMemory, Help, Version, Words}

help_is_no_memory : DisplayHelp ≡ OutOfMemory → ⊥
help_is_no_memory e = cc

version_is_no_memory : DisplayVersion ≡ OutOfMemory → ⊥
version_is_no_memory e = cc

pub told : (words : List Text) (kind : ErrorKind) (r : Refused) → (kind ≡ OutOfMemory) ⊎ IsAmong kind (fault_of warp words) → IsTold kind r → IsRefused words r
told words kind NoMemory h is = record {}
told words kind (Help e) (inl h) is = absurd (help_is_no_memory (sym is ∙ h))
told words kind (Help e) (inr h) is = subst (λ k. IsAmong k (fault_of warp words)) is h
told words kind Version (inl h) is = absurd (version_is_no_memory (sym is ∙ h))
told words kind Version (inr h) is = subst (λ k. IsAmong k (fault_of warp words)) is h
told words kind (Words e) (inl h) is = absurd (is.0 h)
told words kind (Words e) (inr h) is = inl (record { kind = kind; found = h; no_help = is.1.0; no_version = is.1.1 })
