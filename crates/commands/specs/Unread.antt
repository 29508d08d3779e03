-- Why a file isn't read.
use Rattle.std.specs.Prelude.{◌≡◌, ◌⊎◌, ◌<◌, ◌≤◌, ℕ, List, length}

-- the most bytes that a table or a file of actions may have
abbrev pub most_bytes : ℕ
most_bytes = 16777216

pub record IsTooLarge (has : List ℕ → Type 0) : Type 0 where
  pub all : List ℕ
  pub is : has all
  pub longer : most_bytes < length all

-- a file isn't read for want of memory (1), or where it can't be read (63)
abbrev pub IsUnread : Type 0 → ℕ → Type 0
IsUnread lacks number = (number ≡ 1) ⊎ ((number ≡ 63) × lacks)

-- a table or a file of actions isn't read either where it is too large (64)
abbrev pub IsFileFault : (List ℕ → Type 0) → Type 0 → ℕ → Type 0
IsFileFault has lacks number = IsUnread lacks number ⊎ ((number ≡ 64) × IsTooLarge has)

-- the file has bytes, not too many, of which this holds
pub record HasSmall (has : List ℕ → Type 0) (Judged : List ℕ → Type 0) : Type 0 where
  pub bytes : List ℕ
  pub is : has bytes
  pub small : length bytes ≤ most_bytes
  pub judged : Judged bytes

-- a source file has bytes of which this holds
pub record IsSourceWith (has : List ℕ → Type 0) (Judged : List ℕ → Type 0) : Type 0 where
  pub source : List ℕ
  pub is : has source
  pub judged : Judged source
