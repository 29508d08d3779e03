-- What splitting a range at its dots gives.
use Rattle.std.proofs.Common.{◌≡◌, ◌≢◌, ℕ, ◌^◌, ◌<◌, true, eqb, get_or, length, List, ◌∷◌, ◌++◌, Option, lit<, arith, rules}
use Rattle.std.specs.Borrow.{Bor}
use Rattle.std.specs.Option.{MatchOption}
use Rattle.std.specs.Fmt.{decimal}
use Rattle.std.specs.Cmp.Lexicographic.{pointwise}
use Rattle.std.specs.Str.Parse.{AllDigits}
use Rattle.std.proofs.lemmas.Slice.Eq.{bytes_eq-Decides}
use Rattle.std.proofs.lemmas.Fmt.{decimal_is_IsNumeral}
use Rattle.std.proofs.lemmas.Str.Parse.{numerals_by_value, tells_digits, not_in_digits}
use Rattle.std.proofs.lemmas.Str.Pattern.{IsSplitOnceResult, split_after}
use Rattle.command_line.specs.declared.seeds.Seeds.{Seeds}
use Rattle.command_line.specs.Hunting.{IsRange}

-- no digit is a dot
no_dot : (n : ℕ) → n < 2 ^ 64 → (k : ℕ) → k < length (decimal n) → get_or (decimal n) k 0 ≢ 46
no_dot n small k h = not_in_digits (numerals_by_value (AllDigits 10) tells_digits) (decimal n) 46 (decimal_is_IsNumeral n small).0.1 (search rules) k h

-- a number with a dot behind it is split there
pub split_number : (text rest : List ℕ) (n : ℕ) (r : Option (Bor (List ℕ) × Bor (List ℕ))) → IsSplitOnceResult 46 text r → n < 2 ^ 64 → text ≡ decimal n ++ (46 ∷ rest) → MatchOption r ⊥ (λ x. (x.0.now ≡ decimal n) × (x.1.now ≡ rest))
split_number text rest n r h small e = split_after 46 text (decimal n) rest r h (lit< tt) e (no_dot n small)

-- equal texts pass the test
pub same_text : (a b : List ℕ) → a ≡ b → pointwise eqb a b ≡ true
same_text a b e = (bytes_eq-Decides a b).1 e

-- the text of a range is split at its first dot
pub first_part : (text : List ℕ) (r : Option (Bor (List ℕ) × Bor (List ℕ))) → IsSplitOnceResult 46 text r → (s : Seeds) → IsRange text s → MatchOption r ⊥ (λ x. (x.0.now ≡ decimal s.first) × (x.1.now ≡ 46 ∷ decimal s.last))
first_part text r h s is = let rises = is.rises in let below = is.below in split_number text (46 ∷ decimal s.last) s.first r h (omega arith) is.is
