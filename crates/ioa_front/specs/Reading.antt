-- What bytes spell, and why bytes are refused.
use Rattle.std.specs.Prelude.{◌≡◌, ◌≤◌, ◌<◌, ℕ, true, false, List, [], ◌∷◌, ◌++◌, length, map, Result, Ok, Err}
use Rattle.std.specs.Str.{IsAscii}
use Rattle.ioa_tokens.specs.Bytes.{Text, IsFirstWide}
use Rattle.ioa_tokens.specs.Tokens.{Tok, Placed}
use Rattle.ioa_tokens.specs.Cutting.{IsTokens, IsBadAt}
use Rattle.ioa_tokens.specs.Layout.{AreProper}
use Rattle.ioa_tokens.specs.declared.TokensError.{TokensError}
use Rattle.ioa_tokens.specs.declared.TokensError.TheVariants as refused
use Rattle.ioa_trees.specs.declared.tree.SourceTree.{SourceTree}
use Rattle.ioa_front.specs.declared.fault.ReadError.{ReadError}
use Rattle.ioa_front.specs.declared.fault.ReadError.TheVariants as fault
use Rattle.ioa_trees.specs.Nodes.{Node, source as any_source, yield}
use Rattle.ioa_trees.specs.Grammar.{Is, IsText}
use Rattle.ioa_phrases.specs.Depths.{depths, WithinLimit}
use Rattle.ioa_trees.specs.Trees.{PlainSource}
use Rattle.ioa_trees.specs.Spelling.{IsSource, spell}
use Rattle.ioa_trees.specs.Views.{view_source}

-- tokens without their places
abbrev pub toks : List Placed → List Tok
toks ps = map (λ p. p.tok) ps

-- The bytes are cut into the tokens of this tree.
pub record Spells (source : Text) (x : PlainSource) : Type 0 where
  pub ascii : IsAscii source
  pub tokens : List Placed
  pub cut : IsTokens source tokens
  pub spelled : toks tokens ≡ spell x

-- A tree of the grammar within the limit, whose names are names and whose numbers have 63 bits.
abbrev pub IsReadable : PlainSource → Type 0
IsReadable x = IsSource true x × AreProper (spell x)

-- The tokens begin a text of the grammar.
abbrev pub Begins : List Tok → Type 0
Begins ts = (more : List Tok) × IsText false (ts ++ more)

-- The place of the first of these tokens; where there is none, the end of the source.
abbrev pub first_at : ℕ → List Placed → ℕ
first_at end [] = end
first_at end (p ∷ ps) = p.at

-- No text of the grammar goes on with the first of these tokens; where there is none, the tokens before are no text.
abbrev pub Stuck : List Tok → List Placed → Type 0
Stuck pre [] = IsText false pre → ⊥
Stuck pre (p ∷ ps) = (more : List Tok) → IsText false (pre ++ p.tok ∷ more) → ⊥

-- In each text that begins with these tokens, none of them stands inside of more than 64 pairs and prefixes.
pub record AreShallow (pre : List Tok) (m : Node) : Type 0 where
  pub before : List ℕ
  pub after : List ℕ
  pub depths_are : depths 0 m ≡ before ++ after
  pub same : length before ≡ length pre
  pub low : WithinLimit before

abbrev pub StandWithin : List Tok → Type 0
StandWithin pre = (m : Node) (more : List Tok) → Is false any_source 0 m → yield m ≡ pre ++ more → AreShallow pre m

-- In each text that goes on so, the last of these tokens is the first that stands inside of 65.
pub record IsFirstDeep (pre : List Tok) (m : Node) : Type 0 where
  pub before : List ℕ
  pub after : List ℕ
  pub depths_are : depths 0 m ≡ before ++ 65 ∷ after
  pub same : length before ≡ length pre
  pub low : WithinLimit before

abbrev pub StandsTooDeep : List Tok → Tok → Type 0
StandsTooDeep pre t = (m : Node) (more : List Tok) → Is false any_source 0 m → yield m ≡ pre ++ t ∷ more → IsFirstDeep pre m

-- The tokens up to a place begin a text, none of them too deep, and no text goes on there.
pub record IsSyntaxAt (source : Text) (at : ℕ) : Type 0 where
  pub before : List Placed
  pub left : List Placed
  pub cut : IsTokens source (before ++ left)
  pub begins : Begins (toks before)
  pub within : StandWithin (toks before)
  pub stuck : Stuck (toks before) left
  pub place : first_at (length source) left ≡ at

-- A token goes on with those before it to a text, and is the first that stands too deep.
pub record IsTooDeep (source : Text) : Type 0 where
  pub before : List Placed
  pub deep : Placed
  pub left : List Placed
  pub cut : IsTokens source (before ++ deep ∷ left)
  pub begins : Begins (toks before ++ deep.tok ∷ [])
  pub first : StandsTooDeep (toks before) deep.tok

-- how many bytes a source may have
abbrev pub most_bytes : ℕ
most_bytes = 65536

-- why bytes are refused: too many of them first, then a byte that isn't ASCII, then a bad token, then the earliest token
abbrev pub IsRefusal : Text → ReadError → Type 0
IsRefusal source fault.NoMemory = Unit {0}
IsRefusal source fault.TooLarge = most_bytes < length source
IsRefusal source (fault.NotAscii at) = (length source ≤ most_bytes) × IsFirstWide source at
IsRefusal source (fault.BadToken at) = (length source ≤ most_bytes) × (IsAscii source × IsBadAt source at)
IsRefusal source (fault.Syntax at) = (length source ≤ most_bytes) × (IsAscii source × IsSyntaxAt source at)
IsRefusal source fault.TooDeep = (length source ≤ most_bytes) × (IsAscii source × IsTooDeep source)

-- the tree, unless memory ran out
abbrev pub Gets : PlainSource → Result SourceTree ReadError → Type 0
Gets x (Ok s) = view_source s ≡ x
Gets x (Err e) = e ≡ fault.NoMemory

-- a refusal of the bytes' tokens is one of the bytes
abbrev pub lifted : TokensError → ReadError
lifted refused.NoMemory = fault.NoMemory
lifted (refused.NotAscii at) = fault.NotAscii at
lifted (refused.BadToken at) = fault.BadToken at
