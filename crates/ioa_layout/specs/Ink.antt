-- What is to be seen of a text: its tokens and its comments.
use Rattle.std.specs.Prelude.{◌≡◌, ◌-◌, ◌==◌, ◌&&◌, ℕ, Bool, not, List, [], ◌∷◌, map, take, length}
use Rattle.std.specs.List.{suffix_len}
use Rattle.std.specs.Char.{is_ascii_whitespace}
use Rattle.ioa_tokens.specs.Bytes.{Text, is_blank}
use Rattle.ioa_tokens.specs.Tokens.{tok_of}
use Rattle.ioa_tokens.specs.Cutting.{Piece, Blank, Comment, Mark, Part, IsCut, text_of}
use Rattle.ioa_layout.specs.declared.item.Ink.{Ink}
use Rattle.ioa_layout.specs.declared.item.Ink.TheVariants as ink
use Rattle.ioa_layout.specs.declared.item.Item.{Item}

-- tokens and comments are seen, blanks aren't
abbrev pub see : Piece → Part → List Part → List Part
see Blank p ps = ps
see Comment p ps = p ∷ ps
see (Mark t) p ps = p ∷ ps

abbrev pub seen : List Part → List Part
seen [] = []
seen (p ∷ ps) = see p.piece p (seen ps)

-- The text is cut into blanks, and these tokens and comments, each with its bytes, in this order.
pub record Shows (text : Text) (ink : List Part) : Type 0 where
  pub parts : List Part
  pub whole : text_of parts ≡ text
  pub cut : IsCut parts []
  pub shown : seen parts ≡ ink

-- without the white space at its end
abbrev pub trimmed : Text → Text
trimmed text = take (length text - suffix_len is_ascii_whitespace text) text

-- a token as it is, a comment without the white space at its end
abbrev pub tidy_text : Piece → Text → Text
tidy_text Blank text = text
tidy_text Comment text = trimmed text
tidy_text (Mark t) text = text

abbrev pub tidy : Part → Part
tidy p = record { piece = p.piece; text = tidy_text p.piece p.text }

abbrev pub tidy_comment : Text → Part
tidy_comment text = record { piece = Comment; text = trimmed text }

-- what a token may have in it: no blank, and no begin of a comment
abbrev pub is_in_token : ℕ → Bool
is_in_token b = not (is_blank b) && not (b == 37)

abbrev pub piece_of : Ink → Piece
piece_of (ink.Token k) = Mark (tok_of k)
piece_of ink.Comment = Comment

abbrev pub part_of : Item → Part
part_of item = record { piece = piece_of item.ink; text = item.text.now }

abbrev pub parts_of : List Item → List Part
parts_of items = map part_of items
