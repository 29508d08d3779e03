-- Which comments stand in lines of their own.
use Rattle.std.specs.Prelude.{◌≡◌, ◌||◌, ◌==◌, Bool, true, false, List, [], ◌∷◌, Option, None, Some}
use Rattle.ioa_tokens.specs.Bytes.{Text}
use Rattle.ioa_tokens.specs.Cutting.{Piece, Blank, Comment, Mark, Part}
use Rattle.ioa_layout.specs.declared.gap.Gap.{Gap}
use Rattle.ioa_layout.specs.declared.item.Below.{Below}
use Rattle.ioa_layout.specs.declared.item.Below.TheVariants as below
use Rattle.ioa_layout.specs.declared.item.Item.{Item}
use Rattle.ioa_layout.specs.Ink.{piece_of}
use Rattle.ioa_layout.specs.Gaps.{is_comment, is_line}

abbrev pub is_feed : Text → Bool
is_feed [] = false
is_feed (b ∷ bs) = b == 10

-- A line has ended since the token before, where one had ended before the part or not. A comment ends its line.
abbrev pub ended_after : Piece → Text → Bool → Bool
ended_after Blank text ended = ended || is_feed text
ended_after Comment text ended = true
ended_after (Mark t) text ended = false

abbrev pub note_alone : Piece → Bool → List Bool → List Bool
note_alone Blank ended flags = flags
note_alone Comment ended flags = ended ∷ flags
note_alone (Mark t) ended flags = flags

-- of each comment among the parts, whether it stands in a line of its own
abbrev pub alone : Bool → List Part → List Bool
alone ended [] = []
alone ended (p ∷ ps) = note_alone p.piece ended (alone (ended_after p.piece p.text ended) ps)

abbrev pub is_below : Below → Bool
is_below below.SameLine = false
is_below b = true

-- the same of items
abbrev pub flags_of : List Item → List Bool
flags_of [] = []
flags_of (i ∷ is) = note_alone (piece_of i.ink) (is_below i.below) (flags_of is)

abbrev pub flags_by : Option Item → List Bool
flags_by None = []
flags_by (Some i) = flags_of (i ∷ [])

-- a gap before a comment ends a line where the comment is to stand in its own
abbrev pub Stand : Piece → List Item → List Gap → Type 0
Stand p [] gs = Unit {0}
Stand p (q ∷ qs) [] = Unit {0}
Stand p (q ∷ qs) (g ∷ gs) = (is_comment (piece_of q.ink) ≡ true → is_comment p ≡ false → is_line g ≡ is_below q.below) × Stand (piece_of q.ink) qs gs

abbrev pub StandAll : List Item → List Gap → Type 0
StandAll [] gs = Unit {0}
StandAll (p ∷ ps) gs = Stand (piece_of p.ink) ps gs
