-- Texts behind a head.
use Rattle.std.specs.Prelude.{ℕ, Bool, true, false, List, [], ◌++◌}
use Rattle.trace.specs.Heads.{head_text}

-- the head where it is asked for, and else no text
abbrev pub front_of : Bool → List ℕ
front_of true = head_text
front_of false = []

-- a text behind the head where that is asked for, and else the text alone
abbrev pub headed : Bool → List ℕ → List ℕ
headed head text = front_of head ++ text

-- what is said of a text, said of it behind the head where that is asked for
abbrev pub Behind : Bool → (List ℕ → Type 0) → List ℕ → Type 0
Behind head Became text = Became (headed head text)
