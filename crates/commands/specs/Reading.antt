-- What is read of a file.
use Rattle.std.specs.Prelude.{◌≡◌, ℕ, List, take}

-- the bytes are the first ones of a file, at most so many
pub record IsReadOf (has : List ℕ → Type 0) (most : ℕ) (bytes : List ℕ) : Type 0 where
  pub all : List ℕ
  pub is : has all
  pub front : bytes ≡ take most all
