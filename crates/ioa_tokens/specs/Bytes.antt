-- The bytes of a source, by their sorts.
use Rattle.std.specs.Prelude.{◌≤◌, ◌<◌, ◌+◌, ◌-◌, ◌*◌, ℕ, Bool, true, not, ◌&&◌, ◌||◌, ◌==◌, nat_le, List, [], ◌∷◌, length, fold, slice_index}

abbrev pub Text : Type 0
Text = List ℕ

abbrev pub is_letter : ℕ → Bool
is_letter b = (nat_le 97 b && nat_le b 122) || (nat_le 65 b && nat_le b 90)

abbrev pub is_digit : ℕ → Bool
is_digit b = nat_le 48 b && nat_le b 57

-- what names, reserved words and numbers go on with
abbrev pub is_word_byte : ℕ → Bool
is_word_byte b = is_letter b || is_digit b || b == 95

-- space, tab, line feed, carriage return
abbrev pub is_blank : ℕ → Bool
is_blank b = b == 32 || b == 9 || b == 10 || b == 13

-- what a comment goes on with: anything but a line feed
abbrev pub is_in_line : ℕ → Bool
is_in_line b = not (b == 10)

-- the value of decimal digits
abbrev pub value_of : Text → ℕ
value_of = fold (λ n d. 10 * n + (d - 48)) 0

abbrev pub is_wide : ℕ → Bool
is_wide b = nat_le 128 b

-- the first byte of 128 or more stands at the place
abbrev pub IsFirstWide : Text → ℕ → Type 0
IsFirstWide text at = (at < length text) × (128 ≤ slice_index text at) × ((k : ℕ) → k < at → slice_index text k < 128)

-- nothing follows, or a byte that fails the test
abbrev pub stops : (ℕ → Bool) → Text → Bool
stops test [] = true
stops test (b ∷ bs) = not (test b)
