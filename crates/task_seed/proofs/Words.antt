-- What splitting a line at its spaces gives.
use Rattle.std.proofs.Common.{◌≡◌, ◌≢◌, ℕ, ◌^◌, ◌<◌, true, eqb, get_or, length, List, ◌∷◌, ◌++◌, Option, lit<, arith, rules}
use Rattle.std.specs.Borrow.{Bor}
use Rattle.std.specs.Option.{MatchOption}
use Rattle.std.specs.Fmt.{decimal}
use Rattle.std.specs.Cmp.Lexicographic.{pointwise}
use Rattle.std.proofs.lemmas.Slice.Eq.{bytes_eq-Decides}
use Rattle.std.specs.Str.{IsAscii, IsUtf8}
use Rattle.std.specs.Str.Parse.{AllDigits}
use Rattle.std.proofs.lemmas.Fmt.{decimal_is_IsNumeral, IsAscii-decimal}
use Rattle.std.proofs.lemmas.Str.{IsAscii-append, IsUtf8-from_ascii}
use Rattle.std.proofs.lemmas.Str.Ascii.{IsAscii-cons}
use Rattle.std.proofs.lemmas.Str.Parse.{numerals_by_value, tells_digits, not_in_digits}
use Rattle.std.proofs.lemmas.Str.Pattern.{IsSplitOnceResult, split_after}
use Rattle.task_seed.specs.declared.table.Row.{Row}
use Rattle.task_seed.specs.Table.{spelled, IsInRange, IsRow}

-- no digit is a space
no_space : (n : ℕ) → n < 2 ^ 64 → (k : ℕ) → k < length (decimal n) → get_or (decimal n) k 0 ≢ 32
no_space n small k h = not_in_digits (numerals_by_value (AllDigits 10) tells_digits) (decimal n) 32 (decimal_is_IsNumeral n small).0.1 (search rules) k h

pub split_number : (text rest : List ℕ) (n : ℕ) (r : Option (Bor (List ℕ) × Bor (List ℕ))) → IsSplitOnceResult 32 text r → n < 2 ^ 64 → text ≡ decimal n ++ (32 ∷ rest) → MatchOption r ⊥ (λ x. (x.0.now ≡ decimal n) × (x.1.now ≡ rest))
split_number text rest n r h small e = split_after 32 text (decimal n) rest r h (lit< tt) e (no_space n small)

-- a number and a space before ASCII text are ASCII text
IsAscii-word : (n : ℕ) (rest : List ℕ) → n < 2 ^ 64 → IsAscii rest → IsAscii (decimal n ++ (32 ∷ rest))
IsAscii-word n rest small h = IsAscii-append (decimal n) (32 ∷ rest) (IsAscii-decimal n small) (IsAscii-cons 32 rest (lit< tt) h)

-- a row's line is ASCII text
IsAscii-row : (row : Row) → IsInRange row → IsAscii (spelled row)
IsAscii-row row h =
    IsAscii-word row.component _ h.component
    (IsAscii-word row.gap _ (omega (arith, h.gap)) (IsAscii-word row.task _ (omega (arith, h.task)) (IsAscii-decimal row.choice (omega (arith, h.choice)))))

pub IsUtf8-row : (line : List ℕ) → IsRow line → IsUtf8 line
IsUtf8-row line r = rw r.is (IsUtf8-from_ascii (spelled r.row) (IsAscii-row r.row r.in_range))

-- equal texts pass the test
pub same_text : (a b : List ℕ) → a ≡ b → pointwise eqb a b ≡ true
same_text a b e = (bytes_eq-Decides a b).1 e
