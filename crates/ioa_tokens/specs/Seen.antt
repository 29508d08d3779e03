-- What was found, without where it lies in memory.
use Rattle.std.specs.Prelude.{ℕ, Option, Some, None}
use Rattle.ioa_tokens.specs.declared.find.Found.{Found}
use Rattle.ioa_tokens.specs.declared.find.Found.TheVariants as found
use Rattle.ioa_tokens.specs.Tokens.{tok_of}
use Rattle.ioa_tokens.specs.Cutting.{Piece, Blank, Comment, Mark}
use Rattle.ioa_tokens.specs.Finding.{Front}

abbrev pub piece_of : Found → Piece
piece_of found.Blank = Blank
piece_of found.Comment = Comment
piece_of (found.Token k) = Mark (tok_of k)

abbrev pub seen : Option (Found × ℕ) → Front
seen None = None
seen (Some f) = Some (piece_of f.0, f.1)
