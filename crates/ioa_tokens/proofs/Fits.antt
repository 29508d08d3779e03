-- What was found is within the bytes.
use Rattle.std.proofs.Common.{◌≡◌, ◌≤◌, ◌<◌, ℕ, length, Option, Some, None, IfSome, sym}
use Rattle.ioa_tokens.specs.declared.find.Found.{Found}
use Rattle.ioa_tokens.specs.Bytes.{Text}
use Rattle.ioa_tokens.specs.Finding.{front}
use Rattle.ioa_tokens.specs.Seen.{seen, piece_of}
use Rattle.ioa_tokens.proofs.Fronts.{front_fits}

pub seen_fits : (o : Option (Found × ℕ)) (bytes : Text) → 0 < length bytes → seen o ≡ front bytes → IfSome o (λ f. (0 < f.1) × (f.1 ≤ length bytes))
seen_fits None bytes h e = tt
seen_fits (Some f) bytes h e = front_fits bytes (piece_of f.0) f.1 h (sym e)
