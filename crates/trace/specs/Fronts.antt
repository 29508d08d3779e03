-- Texts that are put in front of a place, in bytes that are written from the last to the first.
use Rattle.std.specs.Prelude.{◌≡◌, ℕ, ◌+◌, List, ◌++◌, length, drop}

-- the text starts here and ends at a place, and what was behind that place is still there
pub record IsBefore (old new : List ℕ) (end : ℕ) (text : List ℕ) (start : ℕ) : Type 0 where
  pub place : start + length text ≡ end
  pub written : drop start new ≡ text ++ drop end old
