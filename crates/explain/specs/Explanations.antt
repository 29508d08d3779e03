-- What people are told of a refusal.
use Rattle.std.specs.Prelude.{◌≡◌, ◌&&◌, ◌||◌, ℕ, Bool, Option, nat_le}
use Rattle.ioa_tokens.specs.Bytes.{Text}
use Rattle.compose.specs.Refusals.{source_number}
use Rattle.compose.specs.declared.SourceError.{SourceError}
use Rattle.excerpts.specs.declared.Mark.{Mark}
use Rattle.excerpts.specs.declared.Told.{Told}
use Rattle.excerpts.specs.Excerpts.{explanation}
use Rattle.explain.specs.Marks.{IsLineMark, IsMark}

-- the text tells people of a refused source: with the refusal's number, and with its place marked
pub record IsExplanation (name source : Text) (error : SourceError) (text : Text) : Type 0 where
  pub mark : Option Mark
  pub marked : IsMark source error mark
  pub told : Told
  pub number_is : told.number ≡ source_number error
  pub is : text ≡ explanation name source mark told

-- the text tells people of a file of lines that is refused at a line
pub record IsLineExplanation (name bytes : Text) (number : ℕ) (line : Option ℕ) (text : Text) : Type 0 where
  pub mark : Option Mark
  pub marked : IsLineMark bytes line mark
  pub told : Told
  pub number_is : told.number ≡ number
  pub is : text ≡ explanation name bytes mark told

-- the numbers of which there is something to tell
abbrev pub is_known : ℕ → Bool
is_known n =
    (nat_le 1 n && nat_le n 6) || (nat_le 10 n && nat_le n 17) || (nat_le 20 n && nat_le n 36)
    || (nat_le 40 n && nat_le n 41) || (nat_le 50 n && nat_le n 52) || (nat_le 60 n && nat_le n 64)
