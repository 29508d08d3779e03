-- What was said of a text, on a writer that may fail.
use Rattle.std.specs.Prelude.{◌≡◌, ◌⊎◌, ◌++◌, ℕ, ◌<◌, List, length, Option}
use Rattle.trace.specs.declared.counted.Counted.{Counted}
use Rattle.trace.specs.Went.{IsStopped, IsWritten}

-- a write failed before the text's end
pub record IsCut {W : Type 0} (known : W → Option (List ℕ)) (old new : Counted W) (text : List ℕ) : Type 0 where
  pub written : ℕ
  pub stopped : IsStopped known old new text written

-- the text went out, unless a write failed before its end
abbrev pub IsSaid : {W : Type 0} → (W → Option (List ℕ)) → Counted W → Counted W → List ℕ → Type 0
IsSaid known old new text = IsWritten known old new text ⊎ IsCut known old new text

-- a text that isn't empty became this
pub record SomeText (Became : List ℕ → Type 0) : Type 0 where
  pub text : List ℕ
  pub some : 0 < length text
  pub became : Became text

-- a first part of a text went out, and this is left
pub record IsWrittenFront {W : Type 0} (known : W → Option (List ℕ)) (old new : Counted W) (text rest : List ℕ) : Type 0 where
  pub front : List ℕ
  pub went : IsWritten known old new front
  pub whole : text ≡ front ++ rest
