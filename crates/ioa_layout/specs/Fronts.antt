-- How the tokens and comments of a source are found, from the front.
use Rattle.std.specs.Prelude.{◌≡◌, ◌+◌, ◌-◌, ℕ, min, Bool, true, List, [], ◌∷◌, length, map, Option, None, Some}
use Rattle.std.specs.List.{prefix_len}
use Rattle.ioa_tokens.specs.Bytes.{Text}
use Rattle.ioa_tokens.specs.Tokens.{Placed}
use Rattle.ioa_tokens.specs.Cutting.{Part, IsCut, text_of, placed_from}
use Rattle.ioa_layout.specs.declared.item.Item.{Item}
use Rattle.ioa_layout.specs.Ink.{Shows, see, tidy, part_of, is_in_token}
use Rattle.ioa_layout.specs.Lines.{alone, ended_after, note_alone}

-- how far the next token is, or the end
abbrev pub most_len : List Placed → ℕ → ℕ → ℕ
most_len [] at len = len
most_len (p ∷ ps) at len = p.at - at

abbrev pub token_len : Text → List Placed → ℕ → ℕ
token_len bytes others at = min (prefix_len is_in_token bytes) (most_len others at (length bytes))

-- The bytes from a place on are cut into the parts, and these are their tokens.
pub record IsRest (bytes : Text) (at : ℕ) (left : List Placed) (ps : List Part) : Type 0 where
  pub whole : text_of ps ≡ bytes
  pub cut : IsCut ps []
  pub kept : placed_from at ps ≡ left

abbrev pub shown_by : Option Item → List Part
shown_by None = []
shown_by (Some item) = part_of item ∷ []

-- What was found, its length and the tokens that are left after it: the first part, without the white space at the end
-- of a comment.
pub record IsFront (at : ℕ) (p : Part) (ps : List Part) (shown : List Part) (len : ℕ) (left : List Placed) : Type 0 where
  pub shown_is : shown ≡ map tidy (see p.piece p [])
  pub len_is : len ≡ length p.text
  pub left_is : left ≡ placed_from (at + length p.text) ps

-- What the first part does to lines: the flag of a comment, and whether a line has ended behind the part.
pub record EndsLines (p : Part) (ended : Bool) (flags : List Bool) (after : Bool) : Type 0 where
  pub flags_are : flags ≡ note_alone p.piece ended []
  pub after_is : after ≡ ended_after p.piece p.text ended

-- These are the tokens and the comments of the source, and of each comment whether it stands in a line of its own.
pub record AreOf (source : Text) (shown : List Part) (flags : List Bool) : Type 0 where
  pub ink : List Part
  pub shows : Shows source ink
  pub shown_are : shown ≡ map tidy ink
  pub flags_are : flags ≡ alone true shows.parts
