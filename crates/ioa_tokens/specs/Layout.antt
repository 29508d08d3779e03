-- The layout of tokens as text.
use Rattle.std.specs.Prelude.{◌≤◌, Bool, true, false, ◌&&◌, ◌||◌, if◌then◌else◌, List, [], ◌∷◌, ◌++◌}
use Rattle.std.specs.Fmt.{decimal}
use Rattle.ioa_tokens.specs.declared.word.Word.{Word}
use Rattle.ioa_tokens.specs.declared.word.Word.TheVariants as w
use Rattle.ioa_tokens.specs.Bytes.{Text}
use Rattle.ioa_tokens.specs.Spelling.{spelling, IsName}
use Rattle.ioa_tokens.specs.Tokens.{Tok, Name, Num, Key}

-- a line begins with these words
abbrev pub begins_line : Word → Bool
begins_line w.Type = true
begins_line w.Automaton = true
begins_line w.Signature = true
begins_line w.Input = true
begins_line w.Output = true
begins_line w.Internal = true
begins_line w.States = true
begins_line w.Transitions = true
begins_line w.Pre = true
begins_line w.Eff = true
begins_line w.Tasks = true
begins_line w.Components = true
begins_line w.Hidden = true
begins_line w = false

-- no space stands before these signs
abbrev pub hugs_left : Word → Bool
hugs_left w.Comma = true
hugs_left w.Semicolon = true
hugs_left w.Close = true
hugs_left w.CloseBracket = true
hugs_left w.Colon = true
hugs_left w.OpenBracket = true
hugs_left w.DotDot = true
hugs_left w = false

-- no space stands after these signs
abbrev pub hugs_right : Word → Bool
hugs_right w.Open = true
hugs_right w.OpenBracket = true
hugs_right w.DotDot = true
hugs_right w = false

-- no space stands between these words and `(`
abbrev pub calls : Word → Bool
calls w.Fill = true
calls w.Head = true
calls w.Tail = true
calls w.Len = true
calls w.Append = true
calls w = false

-- no space stands after the token, whatever follows
abbrev pub is_tight : Tok → Bool
is_tight (Key v) = hugs_right v
is_tight (Name s) = false
is_tight (Num n) = false

-- no space stands between the token and `(`
abbrev pub is_called : Tok → Bool
is_called (Name s) = true
is_called (Key v) = calls v
is_called (Num n) = false

-- the sign is `(`
abbrev pub is_open : Word → Bool
is_open w.Open = true
is_open w = false

-- what stands between two neighbours: a line feed, nothing or a space
abbrev pub between : Tok → Tok → Text
between t (Key u) = if begins_line u then 10 ∷ [] else (if hugs_left u || is_tight t || (is_called t && is_open u) then [] else 32 ∷ [])
between t (Name s) = if is_tight t then [] else 32 ∷ []
between t (Num n) = if is_tight t then [] else 32 ∷ []

-- a number is written without leading zeros
abbrev pub text_of : Tok → Text
text_of (Name s) = s
text_of (Num n) = decimal n
text_of (Key v) = spelling v

-- what follows a token: each further token after what stands before it, and a line feed at the end
abbrev pub following : Tok → List Tok → Text
following t [] = 10 ∷ []
following t (u ∷ us) = between t u ++ (text_of u ++ following u us)

-- the text of tokens; of none it is a line feed alone
abbrev pub layout : List Tok → Text
layout [] = 10 ∷ []
layout (t ∷ ts) = text_of t ++ following t ts

-- a name is a name and no reserved word, a number has 63 bits
abbrev pub IsProper : Tok → Type 0
IsProper (Name s) = IsName s
IsProper (Num n) = n ≤ 9223372036854775807
IsProper (Key v) = Unit {0}

abbrev pub AreProper : List Tok → Type 0
AreProper [] = Unit {0}
AreProper (t ∷ ts) = IsProper t × AreProper ts
