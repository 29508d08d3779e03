-- The numbers and places of the refusals.
use Rattle.std.specs.Prelude.{ℕ, Option, None, Some}
use Rattle.ioa_tokens.specs.declared.fault.TokensError.{TokensError}
use Rattle.ioa_tokens.specs.declared.fault.TokensError.TheVariants as fault

-- the number of a refused source
abbrev pub tokens_number : TokensError → ℕ
tokens_number fault.NoMemory = 1
tokens_number (fault.NotAscii at) = 2
tokens_number (fault.BadToken at) = 3

-- the byte of a refused source
abbrev pub tokens_place : TokensError → Option ℕ
tokens_place fault.NoMemory = None
tokens_place (fault.NotAscii at) = Some at
tokens_place (fault.BadToken at) = Some at
