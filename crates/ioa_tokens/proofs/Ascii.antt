-- Which bytes are ASCII.
use Rattle.std.proofs.Common.{slice_index, ◌<◌, ◌⊎◌, suc, zero, ◌≡◌, ℕ, [], ◌∷◌, Bool, true, not, arith, inl, inr}
use Rattle.std.specs.List.{list_all}
use Rattle.std.specs.Str.{IsAscii, IsUtf8}
use Rattle.std.proofs.lemmas.Bool.{cases_lt, cases_order, and_parts, leb-false, not-true}
use Rattle.std.proofs.lemmas.Bool.Decides.{nat_tests}
use Rattle.std.proofs.lemmas.Str.{IsUtf8-from_ascii}
use Rattle.ioa_tokens.specs.Bytes.{Text, is_digit, is_word_byte, is_blank, is_wide, IsFirstWide}
use Rattle.ioa_tokens.proofs.Fronts.{all_mono}

abbrev pub narrow : ℕ → Bool
narrow b = not (is_wide b)

pub word_is_narrow : (b : ℕ) → is_word_byte b ≡ true → narrow b ≡ true
word_is_narrow b h = grind (arith, nat_tests)

pub digit_is_narrow : (b : ℕ) → is_digit b ≡ true → narrow b ≡ true
digit_is_narrow b h = grind (arith, nat_tests)

pub blank_is_narrow : (b : ℕ) → is_blank b ≡ true → narrow b ≡ true
blank_is_narrow b h = grind (arith, nat_tests)

pub narrow_is_ascii : (bs : Text) → list_all narrow bs ≡ true → IsAscii bs
narrow_is_ascii [] h i = omega arith
narrow_is_ascii (b ∷ bs) h zero = leb-false 128 b (not-true (is_wide b) (and_parts (narrow b) (list_all narrow bs) h).0)
narrow_is_ascii (b ∷ bs) h (suc i) = narrow_is_ascii bs (and_parts (narrow b) (list_all narrow bs) h).1 i

-- what a word goes on with is text
pub word_is_text : (bs : Text) → list_all is_word_byte bs ≡ true → IsUtf8 bs
word_is_text bs h = IsUtf8-from_ascii bs (narrow_is_ascii bs (all_mono is_word_byte narrow word_is_narrow bs h))

pub ascii_or_wide : (source : Text) (at : ℕ) → IsAscii source → IsFirstWide source at → ⊥
ascii_or_wide source at h k = omega (arith, h at, k.1)

pub wide_once : (source : Text) (at other : ℕ) → IsFirstWide source at → IsFirstWide source other → at ≡ other
wide_once source at other h k = elim (cases_order at other) [
  | inl same ↦ same
  | inr apart ↦ elim apart [
    | inl less ↦ absurd (omega (arith, k.2 at less, h.1))
    | inr more ↦ absurd (omega (arith, h.2 other more, k.1))
  ]
]

before_more : (b : ℕ) (bs : Text) (at : ℕ) → b < 128 → ((k : ℕ) → k < at → slice_index bs k < 128) → (k : ℕ) → k < suc at → slice_index (b ∷ bs) k < 128
before_more b bs at h is zero less = h
before_more b bs at h is (suc k) less = is k (omega arith)

wide_later : (b : ℕ) (bs : Text) (at : ℕ) → b < 128 → IsFirstWide bs at → IsFirstWide (b ∷ bs) (suc at)
wide_later b bs at h is = (omega (arith, is.0), is.1, before_more b bs at h is.2)

ascii_more : (b : ℕ) (bs : Text) → b < 128 → IsAscii bs → IsAscii (b ∷ bs)
ascii_more b bs h is zero = h
ascii_more b bs h is (suc k) = is k

pub wide_or_ascii : (source : Text) → IsAscii source ⊎ ((at : ℕ) × IsFirstWide source at)
wide_or_ascii [] = inl (λ k. omega arith)
wide_or_ascii (b ∷ bs) = elim (cases_lt b 128) [
  | inr wide ↦ inr (0, (omega arith, wide, λ k h. absurd (omega arith)))
  | inl narrow ↦ elim (wide_or_ascii bs) [
    | inl ascii ↦ inl (ascii_more b bs narrow ascii)
    | inr is ↦ inr (suc is.0, wide_later b bs is.0 narrow is.1)
  ]
]
