-- A number that may be left out.
use Rattle.std.specs.Prelude.{ℕ, Option, None, Some}

-- the number, or 1 where there is none
abbrev pub or_one : Option ℕ → ℕ
or_one None = 1
or_one (Some n) = n
