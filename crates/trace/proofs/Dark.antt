-- The bytes of what a trace writes.
use Rattle.std.proofs.Common.{◌≡◌, ◌≢◌, ℕ, zero, suc, ◌^◌, ◌<◌, Bool, true, false, ◌||◌, List, [], ◌∷◌, ◌++◌, length, get_or, refl, ap, ◌∙◌, arith}
use Rattle.std.specs.Prelude.{◌==◌, codes, ℤ, pos, negsuc, FitsSigned}
use Rattle.std.specs.Int.{w64, IsInRange}
use Rattle.std.specs.List.{list_all, AllByRecursion}
use Rattle.std.specs.Str.{IsUtf8}
use Rattle.std.specs.Str.Parse.{AllDigits}
use Rattle.std.specs.Fmt.{decimal, signed_decimal}
use Rattle.std.proofs.lemmas.Bool.{and_parts, and_from, both_ways}
use Rattle.std.proofs.lemmas.Bool.Decides.{nat_tests}
use Rattle.std.proofs.lemmas.Fmt.{decimal_is_IsNumeral}
use Rattle.std.proofs.lemmas.List.Folds.{list_all-append}
use Rattle.std.proofs.lemmas.Str.{IsUtf8-from_ascii}
use Rattle.std.proofs.lemmas.Str.Parse.{digit_at}
use Rattle.terms.specs.declared.scalar.Scalar.{Scalar}
use Rattle.terms.specs.declared.scalar.Scalar.TheVariants.{Int, Bool as Truth, Member}
use Rattle.event_keys.specs.declared.key.Key.{Key}
use Rattle.plans.specs.declared.plan.Plan.{Plan}
use Rattle.ioa_tokens.specs.Bytes.{is_word_byte}
use Rattle.ioa_tokens.proofs.Ascii.{narrow, narrow_is_ascii}
use Rattle.ioa_tokens.proofs.Fronts.{all_mono}
use Rattle.trace.specs.Lines.{argument_text, other_text, others_text, arguments_text, number_text, key_text}
use Rattle.trace.specs.Written.{IsArgument, Written, written_text, IsWritten, Line, Alone, Turn, Idle, line_text, IsKey, IsLine}

-- what names and arguments go on with: letters, digits, `_` and `-`
abbrev pub is_plain : ℕ → Bool
is_plain b = is_word_byte b || b == 45

-- what actions go on with: also brackets and commas
abbrev pub is_dark : ℕ → Bool
is_dark b = is_plain b || (b == 40 || (b == 41 || b == 44))

-- what lines go on with: also spaces
abbrev pub is_inked : ℕ → Bool
is_inked b = is_dark b || b == 32

pub word_is_plain : (b : ℕ) → is_word_byte b ≡ true → is_plain b ≡ true
word_is_plain b h = grind (arith, nat_tests)

pub plain_is_dark : (b : ℕ) → is_plain b ≡ true → is_dark b ≡ true
plain_is_dark b h = grind (arith, nat_tests)

pub dark_is_inked : (b : ℕ) → is_dark b ≡ true → is_inked b ≡ true
dark_is_inked b h = grind (arith, nat_tests)

pub inked_is_narrow : (b : ℕ) → is_inked b ≡ true → narrow b ≡ true
inked_is_narrow b h = grind (arith, nat_tests)

digit_is_plain : (b : ℕ) → IsInRange 48 57 b → is_plain b ≡ true
digit_is_plain b h = grind (arith, nat_tests)

pub all_append : (test : ℕ → Bool) (xs ys : List ℕ) → list_all test xs ≡ true → list_all test ys ≡ true → list_all test (xs ++ ys) ≡ true
all_append test xs ys h k = list_all-append test xs ys ∙ and_from (list_all test xs) (list_all test ys) h k

-- a byte that fails the test isn't there
pub free : (test : ℕ → Bool) (c : ℕ) → test c ≡ false → (text : List ℕ) → list_all test text ≡ true → (k : ℕ) → k < length text → get_or text k 0 ≢ c
free test c fails [] h k low e = absurd (omega arith)
free test c fails (b ∷ bs) h zero low e = both_ways (test b) (ap test e ∙ fails) (and_parts (test b) (list_all test bs) h).0
free test c fails (b ∷ bs) h (suc k) low e = free test c fails bs (and_parts (test b) (list_all test bs) h).1 k (omega arith) e

digits_plain : (ds : List ℕ) → AllDigits 10 ds → list_all is_plain ds ≡ true
digits_plain [] d = refl
digits_plain (c ∷ cs) d = and_from (is_plain c) (list_all is_plain cs) (digit_is_plain c (digit_at (c ∷ cs) 0 d (omega arith))) (digits_plain cs d.1)

pub number_plain : (n : ℕ) → n < 2 ^ 64 → list_all is_plain (decimal n) ≡ true
number_plain n h = digits_plain (decimal n) (decimal_is_IsNumeral n h).0.1

whole_plain : (z : ℤ) → FitsSigned w64 z → list_all is_plain (signed_decimal z) ≡ true
whole_plain (pos n) h = number_plain n (omega (arith, h.sfits))
whole_plain (negsuc n) h = number_plain (suc n) (omega (arith, h.sfits))

pub argument_plain : (plan : Plan) (a : Scalar) → IsArgument plan a → list_all is_plain (argument_text plan a) ≡ true
argument_plain plan (Int z) h = whole_plain z h
argument_plain plan (Truth true) h = refl
argument_plain plan (Truth false) h = refl
argument_plain plan (Member m) h = all_mono is_word_byte is_plain word_is_plain (argument_text plan (Member m)) h.name.goes_on

argument_dark : (plan : Plan) (a : Scalar) → IsArgument plan a → list_all is_dark (argument_text plan a) ≡ true
argument_dark plan a h = all_mono is_plain is_dark plain_is_dark (argument_text plan a) (argument_plain plan a h)

others_dark : (plan : Plan) (args : List Scalar) → AllByRecursion (IsArgument plan) args → list_all is_dark (others_text plan args) ≡ true
others_dark plan [] h = refl
others_dark plan (a ∷ rest) h = all_append is_dark (other_text plan a) (others_text plan rest) (argument_dark plan a h.0) (others_dark plan rest h.1)

arguments_dark : (plan : Plan) (args : List Scalar) → AllByRecursion (IsArgument plan) args → list_all is_dark (arguments_text plan args) ≡ true
arguments_dark plan [] h = refl
arguments_dark plan (a ∷ rest) h =
    all_append is_dark (argument_text plan a) (others_text plan rest ++ codes ")") (argument_dark plan a h.0) (all_append is_dark (others_text plan rest) (codes ")") (others_dark plan rest h.1) refl)

pub written_dark : (plan : Plan) (w : Written) → IsWritten plan w → list_all is_dark (written_text plan w) ≡ true
written_dark plan w h =
    all_append is_dark w.name (arguments_text plan w.args) (all_mono is_word_byte is_dark (λ b e. plain_is_dark b (word_is_plain b e)) w.name h.name.goes_on) (arguments_dark plan w.args h.args)

pub number_inked : (n : ℕ) → n < 2 ^ 64 → list_all is_inked (number_text n) ≡ true
number_inked n h =
    all_append is_inked (decimal n) (codes " ") (all_mono is_plain is_inked (λ b e. dark_is_inked b (plain_is_dark b e)) (decimal n) (number_plain n h)) refl

pub key_inked : (key : Key) → IsKey key → list_all is_inked (key_text key) ≡ true
key_inked key h =
    all_append is_inked (number_text key.tick) (number_text key.component ++ number_text key.number) (number_inked key.tick h.tick)
    (all_append is_inked (number_text key.component) (number_text key.number) (number_inked key.component h.component) (number_inked key.number h.number))

pub written_inked : (plan : Plan) (w : Written) → IsWritten plan w → list_all is_inked (written_text plan w) ≡ true
written_inked plan w h = all_mono is_dark is_inked dark_is_inked (written_text plan w) (written_dark plan w h)

pub line_inked : (plan : Plan) (line : Line) → IsLine plan line → list_all is_inked (line_text plan line) ≡ true
line_inked plan (Alone w) h = written_inked plan w h
line_inked plan (Turn key w) h = all_append is_inked (key_text key) (written_text plan w) (key_inked key h.0) (written_inked plan w h.1)
line_inked plan (Idle key) h = all_append is_inked (key_text key) (codes "idle") (key_inked key h) refl

pub IsUtf8-line : (plan : Plan) (line : Line) → IsLine plan line → IsUtf8 (line_text plan line)
IsUtf8-line plan line h = IsUtf8-from_ascii (line_text plan line) (narrow_is_ascii (line_text plan line) (all_mono is_inked narrow inked_is_narrow (line_text plan line) (line_inked plan line h)))
