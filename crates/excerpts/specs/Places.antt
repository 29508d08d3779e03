-- Where a place of a text stands, as people count: lines and columns from 1. A column is a byte.
use Rattle.std.specs.Prelude.{◌+◌, ◌-◌, ◌==◌, ℕ, count_by, drop, reverse, take}
use Rattle.std.specs.List.{prefix_len}
use Rattle.ioa_tokens.specs.Bytes.{Text, is_in_line}

-- the line: one more than the line feeds before the place
abbrev pub line_at : Text → ℕ → ℕ
line_at text at = count_by (λ b. b == 10) (take at text) + 1

-- how many bytes of its line stand before the place: those since the last line feed
abbrev pub before_in_line : Text → ℕ → ℕ
before_in_line text at = prefix_len is_in_line (reverse (take at text))

-- the column: one more than these
abbrev pub column_at : Text → ℕ → ℕ
column_at text at = before_in_line text at + 1

-- the text from the first byte of the place's line on
abbrev pub from_line : Text → ℕ → Text
from_line text at = drop (at - before_in_line text at) text

-- the line in which the place stands, without its line feed
abbrev pub line_of : Text → ℕ → Text
line_of text at = take (prefix_len is_in_line (from_line text at)) (from_line text at)
