-- What a layout of a source is.
use Rattle.std.specs.Prelude.{◌≡◌, true, List, map}
use Rattle.std.specs.Str.{IsAscii}
use Rattle.ioa_tokens.specs.Bytes.{Text}
use Rattle.ioa_tokens.specs.Tokens.{Placed}
use Rattle.ioa_tokens.specs.Cutting.{Part, IsTokens}
use Rattle.ioa_layout.specs.declared.gap.Gap.{Gap}
use Rattle.ioa_layout.specs.Ink.{Shows, tidy}
use Rattle.ioa_layout.specs.Gaps.{AreAllGaps, laid}
use Rattle.ioa_layout.specs.Lines.{alone}

-- The text has the tokens and the comments of the source, with gaps of a layout between them, and shows no others. The
-- same comments stand in lines of their own.
pub record IsLayout (source : Text) (text : Text) : Type 0 where
  pub ink : List Part
  pub gaps : List Gap
  pub source_shows : Shows source ink
  pub text_shows : Shows text (map tidy ink)
  pub set : AreAllGaps (map tidy ink) gaps
  pub whole : text ≡ laid (map tidy ink) gaps
  pub stay : alone true text_shows.parts ≡ alone true source_shows.parts

-- The text is ASCII as the source is, and both are read as the same tokens, wherever these stand.
pub record ReadsAlike (source : Text) (text : Text) : Type 0 where
  pub ascii : IsAscii text
  pub read : (us : List Placed) × IsTokens text us
  pub same : (ts us : List Placed) → IsTokens source ts → IsTokens text us → map (λ p. p.tok) us ≡ map (λ p. p.tok) ts
