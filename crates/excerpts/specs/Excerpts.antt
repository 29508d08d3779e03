-- What people are told of a refused text: where it is refused and why, the line with carets below
-- it, and what may help.
use Rattle.std.specs.Prelude.{◌++◌, ◌&&◌, ℕ, Option, None, Some, codes, decimal, if◌then◌else◌, map, min, length, nat_le, replicate}
use Rattle.ioa_tokens.specs.Bytes.{Text, is_blank}
use Rattle.excerpts.specs.declared.excerpt.Mark.{Mark}
use Rattle.excerpts.specs.declared.excerpt.Told.{Told}
use Rattle.excerpts.specs.Places.{before_in_line, column_at, line_at, line_of}

-- how a byte of a line is shown: a blank as a space, and what doesn't print in ASCII as `?`
abbrev pub shown : ℕ → ℕ
shown b = if is_blank b then 32 else (if nat_le 33 b && nat_le b 126 then b else 63)

-- `:LINE:COLUMN`
abbrev pub address : Text → ℕ → Text
address text at =
    (codes ":" ++ decimal (line_at text at)) ++ (codes ":" ++ decimal (column_at text at))

-- `: refused NUMBER: SENTENCE` and a line feed
abbrev pub reason : Told → Text
reason told = (codes ": refused " ++ decimal told.number) ++ (codes ": " ++ (told.sentence.now ++ codes "\n"))

-- the line as it is shown
abbrev pub quoted : Text → ℕ → Text
quoted text at = map shown (line_of text at) ++ codes "\n"

-- the carets: they begin below the place, and are as many as the bytes that are marked
abbrev pub carets : Text → ℕ → ℕ → Text
carets text at width = replicate (before_in_line text at) 32 ++ (replicate width 94 ++ codes "\n")

-- the advice, and a line feed
abbrev pub closing : Told → Text
closing told = told.advice.now ++ codes "\n"

-- what is told of a place
abbrev pub placed : Text → ℕ → ℕ → Told → Text
placed text at width told =
    (address text at ++ reason told) ++ ((quoted text at ++ carets text at width) ++ closing told)

-- what is told of a text by this name; a place behind its end is its end
abbrev pub explanation : Text → Text → Option Mark → Told → Text
explanation name text None told = name ++ (reason told ++ closing told)
explanation name text (Some mark) told = name ++ placed text (min mark.at (length text)) mark.width told
