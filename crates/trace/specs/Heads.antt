-- The head of a trace file of version 2.
use Rattle.std.specs.Prelude.{ℕ, List, codes}

-- the first line, with its line feed
abbrev pub head_text : List ℕ
head_text = codes "trace 2\n"
