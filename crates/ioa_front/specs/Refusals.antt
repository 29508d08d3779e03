-- The numbers and places of the refusals.
use Rattle.std.specs.Prelude.{ℕ, Option, None, Some}
use Rattle.ioa_front.specs.declared.fault.ReadError.{ReadError}
use Rattle.ioa_front.specs.declared.fault.ReadError.TheVariants as fault

-- the number of a refused source
abbrev pub read_number : ReadError → ℕ
read_number fault.NoMemory = 1
read_number (fault.NotAscii at) = 2
read_number (fault.BadToken at) = 3
read_number (fault.Syntax at) = 4
read_number fault.TooLarge = 5
read_number fault.TooDeep = 6

-- the byte of a refused source, where it has one
abbrev pub read_place : ReadError → Option ℕ
read_place fault.NoMemory = None
read_place (fault.NotAscii at) = Some at
read_place (fault.BadToken at) = Some at
read_place (fault.Syntax at) = Some at
read_place fault.TooLarge = None
read_place fault.TooDeep = None
