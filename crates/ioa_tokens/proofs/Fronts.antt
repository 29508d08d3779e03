-- What begins some bytes: the fold finds a piece exactly where one stands.
use Rattle.std.proofs.Common.{◌≡◌, ◌≤◌, ◌<◌, ◌+◌, ℕ, zero, suc, List, [], ◌∷◌, ◌++◌, length, take, drop, Option, Some, None, Bool, true, false, ◌&&◌, ◌||◌, refl, sym, ◌∙◌, ap, subst, arith, ◌⊎◌, inl, inr, slice_index}
use Rattle.std.proofs.lemmas.Bool.{cond_both, and_parts, and_from, both_ways, eqb-true, leb-true, or_left, or_right, not-true, ltb-false, cases_Bool, le-ltb, le-leb}
use Rattle.std.proofs.lemmas.Bool.Decides.{nat_tests}
use Rattle.std.proofs.lemmas.List.{take_at, length-take-le}
use Rattle.std.proofs.lemmas.List.Sums.{prefix_len-le-length}
use Rattle.std.specs.Prelude.{◌==◌, nat_le, nat_lt, if◌then◌else◌}
use Rattle.std.specs.List.{prefix_len, list_all}
use Rattle.std.specs.Str.{bytes_eq}
use Rattle.std.proofs.lemmas.Slice.Eq.{bytes_eq-Decides}
use Rattle.ioa_tokens.specs.declared.word.Word.{Word}
use Rattle.ioa_tokens.specs.declared.word.Word.TheVariants as w
use Rattle.ioa_tokens.specs.Bytes.{Text, is_letter, is_digit, is_word_byte, is_blank, is_in_line, value_of, stops}
use Rattle.ioa_tokens.specs.Tokens.{Name, Num, Key}
use Rattle.ioa_tokens.specs.Spelling.{spelling, is_reserved, takes_equal, IsName, IsNumber, IsToken}
use Rattle.ioa_tokens.specs.Cutting.{Piece, Blank, Comment, Mark, IsPiece, ends}
use Rattle.ioa_tokens.specs.Finding.{words_of, two, three, four, five, six, eight, nine, ten, eleven, Front, front, reserved, lookup, number, word, word_or_name, sign, pair, single, of_pair, of_single, found}

-- ---- runs of bytes

suc_is : (n : ℕ) → 1 + n ≡ suc n
suc_is n = omega arith

pub split : {X : Type 0} (t : Bool) (x y z : X) → (if t then x else y) ≡ z → ((t ≡ true) × (x ≡ z)) ⊎ ((t ≡ false) × (y ≡ z))
split true x y z h = inl (refl, h)
split false x y z h = inr (refl, h)

-- a run is as long as the bytes that pass, where then it stops
pub prefix_exact : (test : ℕ → Bool) (text after : Text) → list_all test text ≡ true → stops test after ≡ true → prefix_len test (text ++ after) ≡ length text
prefix_exact test [] [] h e = refl
prefix_exact test [] (b ∷ bs) h e = rw (not-true (test b) e) refl
prefix_exact test (x ∷ xs) after h e = rw (and_parts (test x) (list_all test xs) h).0 (omega (arith, prefix_exact test xs after (and_parts (test x) (list_all test xs) h).1 e))

pub prefix_passes : (test : ℕ → Bool) (bs : Text) → list_all test (take (prefix_len test bs) bs) ≡ true
prefix_passes test [] = refl
prefix_passes test (b ∷ bs) = elim (cases_Bool (test b)) [
  | inl h ↦ rw (h, suc_is (prefix_len test bs)) (and_from (test b) (list_all test (take (prefix_len test bs) bs)) h (prefix_passes test bs))
  | inr h ↦ rw h refl
]

pub prefix_stops : (test : ℕ → Bool) (bs : Text) → stops test (drop (prefix_len test bs) bs) ≡ true
prefix_stops test [] = refl
prefix_stops test (b ∷ bs) = elim (cases_Bool (test b)) [
  | inl h ↦ rw (h, suc_is (prefix_len test bs)) (prefix_stops test bs)
  | inr h ↦ rw h (rw h refl)
]

-- what passes the first test passes the second
pub prefix_mono : (test other : ℕ → Bool) → ((b : ℕ) → test b ≡ true → other b ≡ true) → (bs : Text) → prefix_len test bs ≤ prefix_len other bs
prefix_mono test other h [] = omega arith
prefix_mono test other h (b ∷ bs) = elim (cases_Bool (test b)) [
  | inl e ↦ rw (e, h b e) (omega (arith, prefix_mono test other h bs))
  | inr e ↦ rw e (omega arith)
]

pub all_mono : (test other : ℕ → Bool) → ((b : ℕ) → test b ≡ true → other b ≡ true) → (bs : Text) → list_all test bs ≡ true → list_all other bs ≡ true
all_mono test other h [] e = refl
all_mono test other h (b ∷ bs) e =
    let parts = and_parts (test b) (list_all test bs) e in
    and_from (other b) (list_all other bs) (h b parts.0) (all_mono test other h bs parts.1)

pub stops_mono : (test other : ℕ → Bool) → ((b : ℕ) → test b ≡ true → other b ≡ true) → (bs : Text) → stops other bs ≡ true → stops test bs ≡ true
stops_mono test other h [] e = refl
stops_mono test other h (b ∷ bs) e = elim (cases_Bool (test b)) [
  | inl t ↦ absurd (both_ways (other b) (not-true (other b) e) (h b t))
  | inr t ↦ rw t refl
]

-- ---- sorts of bytes

blank_is_no_letter : (b : ℕ) → is_blank b ≡ true → is_letter b ≡ false
blank_is_no_letter b h = grind (arith, nat_tests)

blank_is_no_digit : (b : ℕ) → is_blank b ≡ true → is_digit b ≡ false
blank_is_no_digit b h = grind (arith, nat_tests)

digit_is_no_letter : (b : ℕ) → is_digit b ≡ true → is_letter b ≡ false
digit_is_no_letter b h = grind (arith, nat_tests)

digit_goes_on : (b : ℕ) → is_digit b ≡ true → is_word_byte b ≡ true
digit_goes_on b h = or_left (is_letter b || is_digit b) (b == 95) (or_right (is_letter b) (is_digit b) h)

letter_goes_on : (b : ℕ) → is_letter b ≡ true → is_word_byte b ≡ true
letter_goes_on b h = or_left (is_letter b || is_digit b) (b == 95) (or_left (is_letter b) (is_digit b) h)

-- ---- the reserved words

pub reserved_complete : (v : Word) → is_reserved v ≡ true → reserved (spelling v) ≡ Some v
unfolding reserved
reserved_complete w.Type h = refl
reserved_complete w.Enumeration h = refl
reserved_complete w.Of h = refl
reserved_complete w.Automaton h = refl
reserved_complete w.Signature h = refl
reserved_complete w.Input h = refl
reserved_complete w.Output h = refl
reserved_complete w.Internal h = refl
reserved_complete w.Const h = refl
reserved_complete w.States h = refl
reserved_complete w.Transitions h = refl
reserved_complete w.Pre h = refl
reserved_complete w.Eff h = refl
reserved_complete w.Tasks h = refl
reserved_complete w.Components h = refl
reserved_complete w.If h = refl
reserved_complete w.Then h = refl
reserved_complete w.Elseif h = refl
reserved_complete w.Else h = refl
reserved_complete w.Fi h = refl
reserved_complete w.For h = refl
reserved_complete w.Do h = refl
reserved_complete w.Od h = refl
reserved_complete w.Empty h = refl
reserved_complete w.Fill h = refl
reserved_complete w.Head h = refl
reserved_complete w.Tail h = refl
reserved_complete w.Len h = refl
reserved_complete w.Append h = refl
reserved_complete w.True h = refl
reserved_complete w.False h = refl
reserved_complete w.And h = refl
reserved_complete w.Or h = refl
reserved_complete w.Not h = refl
reserved_complete w.Mod h = refl
reserved_complete w.Bool h = refl
reserved_complete w.Int h = refl
reserved_complete w.Seq h = refl
reserved_complete w.Array h = refl
reserved_complete w.Idle h = refl
reserved_complete w.Hidden h = refl
reserved_complete w.Assign h = absurd (cc)
reserved_complete w.DotDot h = absurd (cc)
reserved_complete w.Colon h = absurd (cc)
reserved_complete w.Comma h = absurd (cc)
reserved_complete w.Semicolon h = absurd (cc)
reserved_complete w.Open h = absurd (cc)
reserved_complete w.Close h = absurd (cc)
reserved_complete w.OpenBracket h = absurd (cc)
reserved_complete w.CloseBracket h = absurd (cc)
reserved_complete w.OpenBrace h = absurd (cc)
reserved_complete w.CloseBrace h = absurd (cc)
reserved_complete w.Equal h = absurd (cc)
reserved_complete w.NotEqual h = absurd (cc)
reserved_complete w.Less h = absurd (cc)
reserved_complete w.AtMost h = absurd (cc)
reserved_complete w.Greater h = absurd (cc)
reserved_complete w.AtLeast h = absurd (cc)
reserved_complete w.Plus h = absurd (cc)
reserved_complete w.Minus h = absurd (cc)
reserved_complete w.Times h = absurd (cc)

-- each word of a table stands beside its text
AreSpelled : List (Text × Word) → Type 0
AreSpelled [] = Unit {0}
AreSpelled (k ∷ ks) = (spelling k.1 ≡ k.0) × AreSpelled ks

lookup_sound : (table : List (Text × Word)) (text : Text) (v : Word) → AreSpelled table → lookup table text ≡ Some v → spelling v ≡ text
unfolding AreSpelled
lookup_sound [] text v h e = absurd (cc)
lookup_sound (k ∷ ks) text v h e = elim (split (bytes_eq k.0 text) (Some k.1) (lookup ks text) (Some v) e) [
  | inl p ↦ (let same : k.1 ≡ v = cc (p.1) in subst (λ x. spelling x ≡ text) same (h.0 ∙ (bytes_eq-Decides k.0 text).0 p.0))
  | inr p ↦ lookup_sound ks text v h.1 p.1
]

are_spelled : (len : ℕ) → AreSpelled (words_of len)
unfolding AreSpelled
are_spelled len =
    cond_both (len == 2) two (if len == 3 then three else (if len == 4 then four else (if len == 5 then five else (if len == 6 then six else (if len == 8 then eight else (if len == 9 then nine else (if len == 10 then ten else (if len == 11 then eleven else [])))))))) AreSpelled (λ _. (refl, (refl, (refl, (refl, (refl, (refl, tt))))))) (λ _.
    cond_both (len == 3) three (if len == 4 then four else (if len == 5 then five else (if len == 6 then six else (if len == 8 then eight else (if len == 9 then nine else (if len == 10 then ten else (if len == 11 then eleven else []))))))) AreSpelled (λ _. (refl, (refl, (refl, (refl, (refl, (refl, (refl, (refl, (refl, tt)))))))))) (λ _.
    cond_both (len == 4) four (if len == 5 then five else (if len == 6 then six else (if len == 8 then eight else (if len == 9 then nine else (if len == 10 then ten else (if len == 11 then eleven else [])))))) AreSpelled (λ _. (refl, (refl, (refl, (refl, (refl, (refl, (refl, (refl, (refl, tt)))))))))) (λ _.
    cond_both (len == 5) five (if len == 6 then six else (if len == 8 then eight else (if len == 9 then nine else (if len == 10 then ten else (if len == 11 then eleven else []))))) AreSpelled (λ _. (refl, (refl, (refl, (refl, (refl, (refl, tt))))))) (λ _.
    cond_both (len == 6) six (if len == 8 then eight else (if len == 9 then nine else (if len == 10 then ten else (if len == 11 then eleven else [])))) AreSpelled (λ _. (refl, (refl, (refl, (refl, (refl, tt)))))) (λ _.
    cond_both (len == 8) eight (if len == 9 then nine else (if len == 10 then ten else (if len == 11 then eleven else []))) AreSpelled (λ _. (refl, tt)) (λ _.
    cond_both (len == 9) nine (if len == 10 then ten else (if len == 11 then eleven else [])) AreSpelled (λ _. (refl, (refl, tt))) (λ _.
    cond_both (len == 10) ten (if len == 11 then eleven else []) AreSpelled (λ _. (refl, tt)) (λ _.
    cond_both (len == 11) eleven [] AreSpelled (λ _. (refl, (refl, tt))) (λ _.
    tt)))))))))

pub reserved_sound : (text : Text) (v : Word) → reserved text ≡ Some v → spelling v ≡ text
unfolding reserved
reserved_sound text v e = lookup_sound (words_of (length text)) text v (are_spelled (length text)) e

-- ---- where a piece stands, it is found

word_front : (bytes : Text) → is_letter (slice_index bytes 0) ≡ true → front bytes ≡ word bytes
unfolding front
word_front bytes h = rw h refl

word_is : (bytes text : Text) (n : ℕ) → prefix_len is_word_byte bytes ≡ n → take n bytes ≡ text → word bytes ≡ Some (Mark (word_or_name (reserved text) text), n)
word_is bytes text n e f = rw (e, f) refl

word_found : (text after : Text) → is_letter (slice_index text 0) ≡ true → list_all is_word_byte text ≡ true → stops is_word_byte after ≡ true
    → front (text ++ after) ≡ Some (Mark (word_or_name (reserved text) text), length text)
word_found [] after h all e = absurd (cc)
word_found (b ∷ bs) after h all e = word_front ((b ∷ bs) ++ after) h
    ∙ word_is ((b ∷ bs) ++ after) (b ∷ bs) (length (b ∷ bs)) (prefix_exact is_word_byte (b ∷ bs) after all e) (take_at (b ∷ bs) after (length (b ∷ bs)) refl)

number_front : (bytes : Text) → is_digit (slice_index bytes 0) ≡ true → front bytes ≡ number bytes
unfolding front
number_front bytes h = rw (digit_is_no_letter (slice_index bytes 0) h, h) refl

number_is : (bytes text : Text) (n len : ℕ) → prefix_len is_digit bytes ≡ len → prefix_len is_word_byte bytes ≡ len → take len bytes ≡ text → value_of text ≡ n → n ≤ 9223372036854775807
    → number bytes ≡ Some (Mark (Num n), len)
unfolding number
number_is bytes text n len e f g v h = rw (e, f, le-ltb len len (omega arith), g, v, le-leb n 9223372036854775807 h) refl

number_found : (n : ℕ) (text after : Text) → IsNumber n text → stops is_word_byte after ≡ true → front (text ++ after) ≡ Some (Mark (Num n), length text)
number_found n [] after h e = absurd (omega (arith, h.some))
number_found n (b ∷ bs) after h e =
    let d = and_parts (is_digit b) (list_all is_digit bs) h.digits in
    number_front ((b ∷ bs) ++ after) d.0
    ∙ number_is ((b ∷ bs) ++ after) (b ∷ bs) n (length (b ∷ bs))
    (prefix_exact is_digit (b ∷ bs) after h.digits (stops_mono is_digit is_word_byte digit_goes_on after e))
    (prefix_exact is_word_byte (b ∷ bs) after (all_mono is_digit is_word_byte digit_goes_on (b ∷ bs) h.digits) e)
    (take_at (b ∷ bs) after (length (b ∷ bs)) refl) h.value h.fits

none_from : (o : Option Word) → ((v : Word) → o ≡ Some v → ⊥) → o ≡ None
none_from None h = refl
none_from (Some v) h = absurd (h v refl)

none_reserved : (text : Text) → IsName text → reserved text ≡ None
none_reserved text h = none_from (reserved text) (λ v e. h.is_free v (reserved_sound text v e))

name_found : (text after : Text) → IsName text → stops is_word_byte after ≡ true → front (text ++ after) ≡ Some (Mark (Name text), length text)
name_found text after h e = word_found text after h.begins h.goes_on e
    ∙ ap (λ r. Some (Mark (word_or_name r text), length text)) (none_reserved text h)

blank_found : (b : ℕ) (after : Text) → is_blank b ≡ true → front (b ∷ after) ≡ Some (Blank, 1)
unfolding front
blank_found b after h = rw (blank_is_no_letter b h, blank_is_no_digit b h, h) refl

comment_found : (line after : Text) → list_all is_in_line line ≡ true → stops is_in_line after ≡ true → front (37 ∷ (line ++ after)) ≡ Some (Comment, length (37 ∷ line))
unfolding front
comment_found line after h e = rw (prefix_exact is_in_line (37 ∷ line) after h e) refl

reserved_found : (v : Word) (after : Text) → is_reserved v ≡ true → list_all is_word_byte (spelling v) ≡ true → stops is_word_byte after ≡ true
    → front (spelling v ++ after) ≡ Some (Mark (Key v), length (spelling v))
reserved_found v after h all e = word_found (spelling v) after h all e
    ∙ ap (λ r. Some (Mark (word_or_name r (spelling v)), length (spelling v))) (reserved_complete v h)

colon_found : (after : Text) → stops (λ b. b == 61) after ≡ true → front (58 ∷ after) ≡ Some (Mark (Key w.Colon), 1)
unfolding front
colon_found [] e = refl
colon_found (b ∷ bs) e = rw (not-true (b == 61) e) refl

less_found : (after : Text) → stops (λ b. b == 61) after ≡ true → front (60 ∷ after) ≡ Some (Mark (Key w.Less), 1)
unfolding front
less_found [] e = refl
less_found (b ∷ bs) e = rw (not-true (b == 61) e) refl

greater_found : (after : Text) → stops (λ b. b == 61) after ≡ true → front (62 ∷ after) ≡ Some (Mark (Key w.Greater), 1)
unfolding front
greater_found [] e = refl
greater_found (b ∷ bs) e = rw (not-true (b == 61) e) refl

key_found : (v : Word) (after : Text) → ends (Mark (Key v)) after ≡ true → front (spelling v ++ after) ≡ Some (Mark (Key v), length (spelling v))
unfolding front
key_found w.Type after e = reserved_found w.Type after refl refl e
key_found w.Enumeration after e = reserved_found w.Enumeration after refl refl e
key_found w.Of after e = reserved_found w.Of after refl refl e
key_found w.Automaton after e = reserved_found w.Automaton after refl refl e
key_found w.Signature after e = reserved_found w.Signature after refl refl e
key_found w.Input after e = reserved_found w.Input after refl refl e
key_found w.Output after e = reserved_found w.Output after refl refl e
key_found w.Internal after e = reserved_found w.Internal after refl refl e
key_found w.Const after e = reserved_found w.Const after refl refl e
key_found w.States after e = reserved_found w.States after refl refl e
key_found w.Transitions after e = reserved_found w.Transitions after refl refl e
key_found w.Pre after e = reserved_found w.Pre after refl refl e
key_found w.Eff after e = reserved_found w.Eff after refl refl e
key_found w.Tasks after e = reserved_found w.Tasks after refl refl e
key_found w.Components after e = reserved_found w.Components after refl refl e
key_found w.If after e = reserved_found w.If after refl refl e
key_found w.Then after e = reserved_found w.Then after refl refl e
key_found w.Elseif after e = reserved_found w.Elseif after refl refl e
key_found w.Else after e = reserved_found w.Else after refl refl e
key_found w.Fi after e = reserved_found w.Fi after refl refl e
key_found w.For after e = reserved_found w.For after refl refl e
key_found w.Do after e = reserved_found w.Do after refl refl e
key_found w.Od after e = reserved_found w.Od after refl refl e
key_found w.Empty after e = reserved_found w.Empty after refl refl e
key_found w.Fill after e = reserved_found w.Fill after refl refl e
key_found w.Head after e = reserved_found w.Head after refl refl e
key_found w.Tail after e = reserved_found w.Tail after refl refl e
key_found w.Len after e = reserved_found w.Len after refl refl e
key_found w.Append after e = reserved_found w.Append after refl refl e
key_found w.True after e = reserved_found w.True after refl refl e
key_found w.False after e = reserved_found w.False after refl refl e
key_found w.And after e = reserved_found w.And after refl refl e
key_found w.Or after e = reserved_found w.Or after refl refl e
key_found w.Not after e = reserved_found w.Not after refl refl e
key_found w.Mod after e = reserved_found w.Mod after refl refl e
key_found w.Bool after e = reserved_found w.Bool after refl refl e
key_found w.Int after e = reserved_found w.Int after refl refl e
key_found w.Seq after e = reserved_found w.Seq after refl refl e
key_found w.Array after e = reserved_found w.Array after refl refl e
key_found w.Idle after e = reserved_found w.Idle after refl refl e
key_found w.Hidden after e = reserved_found w.Hidden after refl refl e
key_found w.Assign after e = refl
key_found w.DotDot after e = refl
key_found w.Colon after e = colon_found after e
key_found w.Comma after e = refl
key_found w.Semicolon after e = refl
key_found w.Open after e = refl
key_found w.Close after e = refl
key_found w.OpenBracket after e = refl
key_found w.CloseBracket after e = refl
key_found w.OpenBrace after e = refl
key_found w.CloseBrace after e = refl
key_found w.Equal after e = refl
key_found w.NotEqual after e = refl
key_found w.Less after e = less_found after e
key_found w.AtMost after e = refl
key_found w.Greater after e = greater_found after e
key_found w.AtLeast after e = refl
key_found w.Plus after e = refl
key_found w.Minus after e = refl
key_found w.Times after e = refl

pub piece_found : (p : Piece) (text after : Text) → IsPiece p text → ends p after ≡ true → front (text ++ after) ≡ Some (p, length text)
piece_found Blank text after h e = subst (λ t. front (t ++ after) ≡ Some (Blank, length t)) (sym h.1) (blank_found h.0 after h.2)
piece_found Comment text after h e = subst (λ t. front (t ++ after) ≡ Some (Comment, length t)) (sym h.1) (comment_found h.0 after h.2 e)
piece_found (Mark (Name s)) text after h e = subst (λ t. front (text ++ after) ≡ Some (Mark (Name t), length text)) (sym h.0) (name_found text after h.1 e)
piece_found (Mark (Num n)) text after h e = number_found n text after h e
piece_found (Mark (Key v)) text after h e = subst (λ t. front (t ++ after) ≡ Some (Mark (Key v), length t)) h (key_found v after e)

-- ---- what is found stands there

pub record IsFront (p : Piece) (n : ℕ) (bytes : Text) : Type 0 where
  pub some : 0 < n
  pub fits : n ≤ length bytes
  pub piece : IsPiece p (take n bytes)
  pub ending : ends p (drop n bytes) ≡ true

abbrev piece_in : Front → Piece
piece_in None = Blank
piece_in (Some f) = f.0

abbrev len_in : Front → ℕ
len_in None = 0
len_in (Some f) = f.1

-- the parts of a found pair
pub found_piece : (p q : Piece) (m n : ℕ) → found p m ≡ found q n → p ≡ q
found_piece p q m n e = ap piece_in e

pub found_len : (p q : Piece) (m n : ℕ) → found p m ≡ found q n → m ≡ n
found_len p q m n e = ap len_in e

moved : (p q : Piece) (m n : ℕ) (bytes : Text) → found p m ≡ found q n → IsFront p m bytes → IsFront q n bytes
moved p q m n bytes e h = subst (λ x. IsFront x n bytes) (found_piece p q m n e) (subst (λ x. IsFront p x bytes) (found_len p q m n e) h)

-- nothing is not a found piece
nothing : (p : Piece) (n : ℕ) {A : Type 0} → None ≡ found p n → A
nothing p n e = absurd (cc)

prefix_some : (test : ℕ → Bool) (bytes : Text) → 0 < length bytes → test (slice_index bytes 0) ≡ true → 0 < prefix_len test bytes
prefix_some test [] h e = absurd (omega arith)
prefix_some test (b ∷ bs) h e = rw e (omega arith)

first_taken : (n : ℕ) (bytes : Text) → 0 < n → slice_index (take n bytes) 0 ≡ slice_index bytes 0
first_taken zero bytes h = absurd (omega arith)
first_taken (suc n) [] h = refl
first_taken (suc n) (b ∷ bs) h = refl

stops_never : (bytes : Text) → stops (λ b. false) bytes ≡ true
stops_never [] = refl
stops_never (b ∷ bs) = refl

both_none : (o : Option Word) (v : Word) → o ≡ None → o ≡ Some v → ⊥
both_none o v e f = cc

word_token_of : (o : Option Word) (text : Text) → is_letter (slice_index text 0) ≡ true → list_all is_word_byte text ≡ true
    → ((v : Word) → o ≡ Some v → spelling v ≡ text) → (o ≡ None → (v : Word) → spelling v ≡ text → ⊥) → IsToken (word_or_name o text) text
word_token_of None text h all some none = (refl, record { begins = h; goes_on = all; is_free = none refl })
word_token_of (Some v) text h all some none = some v refl

word_token : (text : Text) → is_letter (slice_index text 0) ≡ true → list_all is_word_byte text ≡ true → IsToken (word_or_name (reserved text) text) text
word_token text h all = word_token_of (reserved text) text h all (λ v e. reserved_sound text v e)
    (λ e v s. absurd (both_none (reserved text) v e (ap reserved (sym s) ∙ reserved_complete v (rw s h))))

reserved_ends : (v : Word) (after : Text) → is_reserved v ≡ true → stops is_word_byte after ≡ true → ends (Mark (Key v)) after ≡ true
reserved_ends v [] h e = refl
reserved_ends v (b ∷ bs) h e = rw h e

word_ends : (o : Option Word) (text after : Text) → is_letter (slice_index text 0) ≡ true → ((v : Word) → o ≡ Some v → spelling v ≡ text)
    → stops is_word_byte after ≡ true → ends (Mark (word_or_name o text)) after ≡ true
word_ends None text after h some e = e
word_ends (Some v) text after h some e = reserved_ends v after (rw (some v refl) h) e

word_sound : (bytes : Text) (len : ℕ) → 0 < length bytes → is_letter (slice_index bytes 0) ≡ true → prefix_len is_word_byte bytes ≡ len
    → IsFront (Mark (word_or_name (reserved (take len bytes)) (take len bytes))) len bytes
word_sound bytes len some h e =
    let here : 0 < len = omega (arith, prefix_some is_word_byte bytes some (letter_goes_on (slice_index bytes 0) h)) in
    let first : is_letter (slice_index (take len bytes) 0) ≡ true = rw (first_taken len bytes here) h in
    record {
      some = here;
      fits = omega (arith, prefix_len-le-length is_word_byte bytes);
      piece = word_token (take len bytes) first (subst (λ n. list_all is_word_byte (take n bytes) ≡ true) e (prefix_passes is_word_byte bytes));
      ending = word_ends (reserved (take len bytes)) (take len bytes) (drop len bytes) first (λ v s. reserved_sound (take len bytes) v s)
          (subst (λ n. stops is_word_byte (drop n bytes) ≡ true) e (prefix_stops is_word_byte bytes));
    }

number_at : (bytes : Text) (len : ℕ) → 0 < length bytes → is_digit (slice_index bytes 0) ≡ true → prefix_len is_digit bytes ≡ len
    → nat_lt len (prefix_len is_word_byte bytes) ≡ false → nat_le (value_of (take len bytes)) 9223372036854775807 ≡ true
    → IsFront (Mark (Num (value_of (take len bytes)))) len bytes
number_at bytes len some h e f g =
    let here : 0 < len = omega (arith, prefix_some is_digit bytes some h) in
    let fits : len ≤ length bytes = omega (arith, prefix_len-le-length is_digit bytes) in
    let same : prefix_len is_word_byte bytes ≡ len =
    omega (arith, prefix_mono is_digit is_word_byte digit_goes_on bytes, ltb-false len (prefix_len is_word_byte bytes) f) in
    record {
      some = here;
      fits = fits;
      piece = record {
        some = omega (arith, length-take-le len bytes fits);
        digits = subst (λ n. list_all is_digit (take n bytes) ≡ true) e (prefix_passes is_digit bytes);
        value = refl;
        fits = leb-true (value_of (take len bytes)) 9223372036854775807 g;
      };
      ending = subst (λ n. stops is_word_byte (drop n bytes) ≡ true) same (prefix_stops is_word_byte bytes);
    }

number_sound : (bytes : Text) (p : Piece) (n : ℕ) → 0 < length bytes → is_digit (slice_index bytes 0) ≡ true → number bytes ≡ found p n → IsFront p n bytes
unfolding number
number_sound bytes p n some h e =
    let len = prefix_len is_digit bytes in
    elim (split (nat_lt len (prefix_len is_word_byte bytes)) None (if nat_le (value_of (take len bytes)) 9223372036854775807 then found (Mark (Num (value_of (take len bytes)))) len else None) (found p n) e) [
      | inl q ↦ nothing p n q.1
      | inr q ↦ elim (split (nat_le (value_of (take len bytes)) 9223372036854775807) (found (Mark (Num (value_of (take len bytes)))) len) None (found p n) q.1) [
        | inl r ↦ moved (Mark (Num (value_of (take len bytes)))) p len n bytes r.1 (number_at bytes len some h refl q.0 r.0)
        | inr r ↦ nothing p n r.1
      ]
    ]

blank_sound : (bytes : Text) → 0 < length bytes → is_blank (slice_index bytes 0) ≡ true → IsFront Blank 1 bytes
blank_sound [] some h = absurd (omega arith)
blank_sound (b ∷ bs) some h = record { some = omega arith; fits = omega arith; piece = (b, refl, h); ending = stops_never bs }

comment_sound : (bytes : Text) → 0 < length bytes → slice_index bytes 0 ≡ 37 → IsFront Comment (prefix_len is_in_line bytes) bytes
comment_sound [] some h = absurd (omega arith)
comment_sound (b ∷ bs) some h = subst (λ x. IsFront Comment (prefix_len is_in_line (x ∷ bs)) (x ∷ bs)) (sym h) (record {
  some = omega arith;
  fits = prefix_len-le-length is_in_line (37 ∷ bs);
  piece = (take (prefix_len is_in_line bs) bs, rw (suc_is (prefix_len is_in_line bs)) refl, prefix_passes is_in_line bs);
  ending = prefix_stops is_in_line (37 ∷ bs);
})

-- ---- signs

record IsPair (a b : ℕ) (v : Word) : Type 0 where
  spelled : spelling v ≡ a ∷ b ∷ []
  plain : is_reserved v ≡ false
  last : takes_equal v ≡ false
  second : 0 < b

by_pair : (a b x y : ℕ) (u v : Word) → (a == x && b == y) ≡ true → Some u ≡ Some v → IsPair x y u → IsPair a b v
by_pair a b x y u v h e is =
    let parts = and_parts (a == x) (b == y) h in
    let same : u ≡ v = cc in
    subst (λ z. IsPair a b z) same (subst (λ z. IsPair z b u) (sym (eqb-true a x parts.0)) (subst (λ z. IsPair x z u) (sym (eqb-true b y parts.1)) is))

pair_sound : (a b : ℕ) (v : Word) → pair a b ≡ Some v → IsPair a b v
pair_sound a b v e0 =
    elim (split (a == 58 && b == 61) (Some w.Assign) (if a == 47 && b == 61 then Some w.NotEqual else (if a == 60 && b == 61 then Some w.AtMost else (if a == 62 && b == 61 then Some w.AtLeast else (if a == 46 && b == 46 then Some w.DotDot else None)))) (Some v) e0) [
      | inl h ↦ by_pair a b 58 61 w.Assign v h.0 h.1 (record { spelled = refl; plain = refl; last = refl; second = omega arith })
      | inr h0 ↦ let e1 = h0.1 in
          elim (split (a == 47 && b == 61) (Some w.NotEqual) (if a == 60 && b == 61 then Some w.AtMost else (if a == 62 && b == 61 then Some w.AtLeast else (if a == 46 && b == 46 then Some w.DotDot else None))) (Some v) e1) [
            | inl h ↦ by_pair a b 47 61 w.NotEqual v h.0 h.1 (record { spelled = refl; plain = refl; last = refl; second = omega arith })
            | inr h1 ↦ let e2 = h1.1 in
                elim (split (a == 60 && b == 61) (Some w.AtMost) (if a == 62 && b == 61 then Some w.AtLeast else (if a == 46 && b == 46 then Some w.DotDot else None)) (Some v) e2) [
                  | inl h ↦ by_pair a b 60 61 w.AtMost v h.0 h.1 (record { spelled = refl; plain = refl; last = refl; second = omega arith })
                  | inr h2 ↦ let e3 = h2.1 in
                      elim (split (a == 62 && b == 61) (Some w.AtLeast) (if a == 46 && b == 46 then Some w.DotDot else None) (Some v) e3) [
                        | inl h ↦ by_pair a b 62 61 w.AtLeast v h.0 h.1 (record { spelled = refl; plain = refl; last = refl; second = omega arith })
                        | inr h3 ↦ let e4 = h3.1 in
                            elim (split (a == 46 && b == 46) (Some w.DotDot) None (Some v) e4) [
                              | inl h ↦ by_pair a b 46 46 w.DotDot v h.0 h.1 (record { spelled = refl; plain = refl; last = refl; second = omega arith })
                              | inr h4 ↦ absurd (cc (h4.1))
                            ]
                      ]
                ]
          ]
    ]

record IsSingle (a b : ℕ) (v : Word) : Type 0 where
  spelled : spelling v ≡ a ∷ []
  plain : is_reserved v ≡ false
  last : (takes_equal v && b == 61) ≡ false

none_if : (t : Bool) (v : Word) (o : Option Word) → (if t then Some v else o) ≡ None → t ≡ false
none_if true v o e = absurd (cc)
none_if false v o e = refl

colon_last : (b : ℕ) → pair 58 b ≡ None → (b == 61) ≡ false
colon_last b e = none_if (b == 61) w.Assign None e

less_last : (b : ℕ) → pair 60 b ≡ None → (b == 61) ≡ false
less_last b e = none_if (b == 61) w.AtMost None e

greater_last : (b : ℕ) → pair 62 b ≡ None → (b == 61) ≡ false
greater_last b e = none_if (b == 61) w.AtLeast None e

by_single : (a b x : ℕ) (u v : Word) → pair a b ≡ None → (a == x) ≡ true → Some u ≡ Some v → (pair x b ≡ None → IsSingle x b u) → IsSingle a b v
by_single a b x u v p h e is =
    let same : u ≡ v = cc in
    let at : a ≡ x = eqb-true a x h in
    subst (λ z. IsSingle a b z) same (subst (λ z. IsSingle z b u) (sym at) (is (subst (λ z. pair z b ≡ None) at p)))

single_sound : (a b : ℕ) (v : Word) → pair a b ≡ None → single a ≡ Some v → IsSingle a b v
single_sound a b v none e0 =
    elim (split (a == 58) (Some w.Colon) (if a == 44 then Some w.Comma else (if a == 59 then Some w.Semicolon else (if a == 40 then Some w.Open else (if a == 41 then Some w.Close else (if a == 91 then Some w.OpenBracket else (if a == 93 then Some w.CloseBracket else (if a == 123 then Some w.OpenBrace else (if a == 125 then Some w.CloseBrace else (if a == 61 then Some w.Equal else (if a == 60 then Some w.Less else (if a == 62 then Some w.Greater else (if a == 43 then Some w.Plus else (if a == 45 then Some w.Minus else (if a == 42 then Some w.Times else None)))))))))))))) (Some v) e0) [
      | inl h ↦ by_single a b 58 w.Colon v none h.0 h.1 (λ p. record { spelled = refl; plain = refl; last = colon_last b p })
      | inr h0 ↦ let e1 = h0.1 in
          elim (split (a == 44) (Some w.Comma) (if a == 59 then Some w.Semicolon else (if a == 40 then Some w.Open else (if a == 41 then Some w.Close else (if a == 91 then Some w.OpenBracket else (if a == 93 then Some w.CloseBracket else (if a == 123 then Some w.OpenBrace else (if a == 125 then Some w.CloseBrace else (if a == 61 then Some w.Equal else (if a == 60 then Some w.Less else (if a == 62 then Some w.Greater else (if a == 43 then Some w.Plus else (if a == 45 then Some w.Minus else (if a == 42 then Some w.Times else None))))))))))))) (Some v) e1) [
            | inl h ↦ by_single a b 44 w.Comma v none h.0 h.1 (λ p. record { spelled = refl; plain = refl; last = refl })
            | inr h1 ↦ let e2 = h1.1 in
                elim (split (a == 59) (Some w.Semicolon) (if a == 40 then Some w.Open else (if a == 41 then Some w.Close else (if a == 91 then Some w.OpenBracket else (if a == 93 then Some w.CloseBracket else (if a == 123 then Some w.OpenBrace else (if a == 125 then Some w.CloseBrace else (if a == 61 then Some w.Equal else (if a == 60 then Some w.Less else (if a == 62 then Some w.Greater else (if a == 43 then Some w.Plus else (if a == 45 then Some w.Minus else (if a == 42 then Some w.Times else None)))))))))))) (Some v) e2) [
                  | inl h ↦ by_single a b 59 w.Semicolon v none h.0 h.1 (λ p. record { spelled = refl; plain = refl; last = refl })
                  | inr h2 ↦ let e3 = h2.1 in
                      elim (split (a == 40) (Some w.Open) (if a == 41 then Some w.Close else (if a == 91 then Some w.OpenBracket else (if a == 93 then Some w.CloseBracket else (if a == 123 then Some w.OpenBrace else (if a == 125 then Some w.CloseBrace else (if a == 61 then Some w.Equal else (if a == 60 then Some w.Less else (if a == 62 then Some w.Greater else (if a == 43 then Some w.Plus else (if a == 45 then Some w.Minus else (if a == 42 then Some w.Times else None))))))))))) (Some v) e3) [
                        | inl h ↦ by_single a b 40 w.Open v none h.0 h.1 (λ p. record { spelled = refl; plain = refl; last = refl })
                        | inr h3 ↦ let e4 = h3.1 in
                            elim (split (a == 41) (Some w.Close) (if a == 91 then Some w.OpenBracket else (if a == 93 then Some w.CloseBracket else (if a == 123 then Some w.OpenBrace else (if a == 125 then Some w.CloseBrace else (if a == 61 then Some w.Equal else (if a == 60 then Some w.Less else (if a == 62 then Some w.Greater else (if a == 43 then Some w.Plus else (if a == 45 then Some w.Minus else (if a == 42 then Some w.Times else None)))))))))) (Some v) e4) [
                              | inl h ↦ by_single a b 41 w.Close v none h.0 h.1 (λ p. record { spelled = refl; plain = refl; last = refl })
                              | inr h4 ↦ let e5 = h4.1 in
                                  elim (split (a == 91) (Some w.OpenBracket) (if a == 93 then Some w.CloseBracket else (if a == 123 then Some w.OpenBrace else (if a == 125 then Some w.CloseBrace else (if a == 61 then Some w.Equal else (if a == 60 then Some w.Less else (if a == 62 then Some w.Greater else (if a == 43 then Some w.Plus else (if a == 45 then Some w.Minus else (if a == 42 then Some w.Times else None))))))))) (Some v) e5) [
                                    | inl h ↦ by_single a b 91 w.OpenBracket v none h.0 h.1 (λ p. record { spelled = refl; plain = refl; last = refl })
                                    | inr h5 ↦ let e6 = h5.1 in
                                        elim (split (a == 93) (Some w.CloseBracket) (if a == 123 then Some w.OpenBrace else (if a == 125 then Some w.CloseBrace else (if a == 61 then Some w.Equal else (if a == 60 then Some w.Less else (if a == 62 then Some w.Greater else (if a == 43 then Some w.Plus else (if a == 45 then Some w.Minus else (if a == 42 then Some w.Times else None)))))))) (Some v) e6) [
                                          | inl h ↦ by_single a b 93 w.CloseBracket v none h.0 h.1 (λ p. record { spelled = refl; plain = refl; last = refl })
                                          | inr h6 ↦ let e7 = h6.1 in
                                              elim (split (a == 123) (Some w.OpenBrace) (if a == 125 then Some w.CloseBrace else (if a == 61 then Some w.Equal else (if a == 60 then Some w.Less else (if a == 62 then Some w.Greater else (if a == 43 then Some w.Plus else (if a == 45 then Some w.Minus else (if a == 42 then Some w.Times else None))))))) (Some v) e7) [
                                                | inl h ↦ by_single a b 123 w.OpenBrace v none h.0 h.1 (λ p. record { spelled = refl; plain = refl; last = refl })
                                                | inr h7 ↦ let e8 = h7.1 in
                                                    elim (split (a == 125) (Some w.CloseBrace) (if a == 61 then Some w.Equal else (if a == 60 then Some w.Less else (if a == 62 then Some w.Greater else (if a == 43 then Some w.Plus else (if a == 45 then Some w.Minus else (if a == 42 then Some w.Times else None)))))) (Some v) e8) [
                                                      | inl h ↦ by_single a b 125 w.CloseBrace v none h.0 h.1 (λ p. record { spelled = refl; plain = refl; last = refl })
                                                      | inr h8 ↦ let e9 = h8.1 in
                                                          elim (split (a == 61) (Some w.Equal) (if a == 60 then Some w.Less else (if a == 62 then Some w.Greater else (if a == 43 then Some w.Plus else (if a == 45 then Some w.Minus else (if a == 42 then Some w.Times else None))))) (Some v) e9) [
                                                            | inl h ↦ by_single a b 61 w.Equal v none h.0 h.1 (λ p. record { spelled = refl; plain = refl; last = refl })
                                                            | inr h9 ↦ let e10 = h9.1 in
                                                                elim (split (a == 60) (Some w.Less) (if a == 62 then Some w.Greater else (if a == 43 then Some w.Plus else (if a == 45 then Some w.Minus else (if a == 42 then Some w.Times else None)))) (Some v) e10) [
                                                                  | inl h ↦ by_single a b 60 w.Less v none h.0 h.1 (λ p. record { spelled = refl; plain = refl; last = less_last b p })
                                                                  | inr h10 ↦ let e11 = h10.1 in
                                                                      elim (split (a == 62) (Some w.Greater) (if a == 43 then Some w.Plus else (if a == 45 then Some w.Minus else (if a == 42 then Some w.Times else None))) (Some v) e11) [
                                                                        | inl h ↦ by_single a b 62 w.Greater v none h.0 h.1 (λ p. record { spelled = refl; plain = refl; last = greater_last b p })
                                                                        | inr h11 ↦ let e12 = h11.1 in
                                                                            elim (split (a == 43) (Some w.Plus) (if a == 45 then Some w.Minus else (if a == 42 then Some w.Times else None)) (Some v) e12) [
                                                                              | inl h ↦ by_single a b 43 w.Plus v none h.0 h.1 (λ p. record { spelled = refl; plain = refl; last = refl })
                                                                              | inr h12 ↦ let e13 = h12.1 in
                                                                                  elim (split (a == 45) (Some w.Minus) (if a == 42 then Some w.Times else None) (Some v) e13) [
                                                                                    | inl h ↦ by_single a b 45 w.Minus v none h.0 h.1 (λ p. record { spelled = refl; plain = refl; last = refl })
                                                                                    | inr h13 ↦ let e14 = h13.1 in
                                                                                        elim (split (a == 42) (Some w.Times) None (Some v) e14) [
                                                                                          | inl h ↦ by_single a b 42 w.Times v none h.0 h.1 (λ p. record { spelled = refl; plain = refl; last = refl })
                                                                                          | inr h14 ↦ absurd (cc (h14.1))
                                                                                        ]
                                                                                  ]
                                                                            ]
                                                                      ]
                                                                ]
                                                          ]
                                                    ]
                                              ]
                                        ]
                                  ]
                            ]
                      ]
                ]
          ]
    ]

option_cases : (o : Option Word) → (o ≡ None) ⊎ ((v : Word) × (o ≡ Some v))
option_cases None = inl refl
option_cases (Some v) = inr (v, refl)

last_ends : (v : Word) (after : Text) → is_reserved v ≡ false → takes_equal v ≡ false → ends (Mark (Key v)) after ≡ true
last_ends v [] h e = refl
last_ends v (b ∷ bs) h e = rw (h, e) refl

pair_at : (bytes : Text) (v : Word) → IsPair (slice_index bytes 0) (slice_index bytes 1) v → IsFront (Mark (Key v)) 2 bytes
pair_at [] v is = absurd (omega (arith, is.second))
pair_at (a ∷ []) v is = absurd (omega (arith, is.second))
pair_at (a ∷ b ∷ bs) v is = record { some = omega arith; fits = omega arith; piece = is.spelled; ending = last_ends v bs is.plain is.last }

single_at : (bytes : Text) (v : Word) → 0 < length bytes → IsSingle (slice_index bytes 0) (slice_index bytes 1) v → IsFront (Mark (Key v)) 1 bytes
single_at [] v some is = absurd (omega arith)
single_at (a ∷ []) v some is = record { some = omega arith; fits = omega arith; piece = is.spelled; ending = refl }
single_at (a ∷ b ∷ bs) v some is = record { some = omega arith; fits = omega arith; piece = is.spelled; ending = rw (is.plain, is.last) refl }

sign_sound : (bytes : Text) (p : Piece) (n : ℕ) → 0 < length bytes → sign (slice_index bytes 0) (slice_index bytes 1) ≡ found p n → IsFront p n bytes
sign_sound bytes p n some e =
    let a = slice_index bytes 0 in
    let b = slice_index bytes 1 in
    elim (option_cases (pair a b)) [
      | inl none ↦ elim (option_cases (single a)) [
        | inl q ↦ nothing p n (sym (ap (λ x. of_pair x (of_single (single a))) none ∙ ap of_single q) ∙ e)
        | inr q ↦ moved (Mark (Key q.0)) p 1 n bytes (sym (ap (λ x. of_pair x (of_single (single a))) none ∙ ap of_single q.1) ∙ e)
            (single_at bytes q.0 some (single_sound a b q.0 none q.1))
      ]
      | inr q ↦ moved (Mark (Key q.0)) p 2 n bytes (sym (ap (λ x. of_pair x (of_single (single a))) q.1) ∙ e) (pair_at bytes q.0 (pair_sound a b q.0 q.1))
    ]

pub front_sound : (bytes : Text) (p : Piece) (n : ℕ) → 0 < length bytes → front bytes ≡ found p n → IsFront p n bytes
unfolding front
front_sound bytes p n some e =
    let b = slice_index bytes 0 in
    let signs : Front = sign b (slice_index bytes 1) in
    let comments : Front = found Comment (prefix_len is_in_line bytes) in
    let blanks : Front = found Blank 1 in
    let len = prefix_len is_word_byte bytes in
    let mark = Mark (word_or_name (reserved (take len bytes)) (take len bytes)) in
    elim (split (is_letter b) (word bytes) (if is_digit b then number bytes else (if is_blank b then blanks else (if b == 37 then comments else signs))) (found p n) e) [
      | inl h ↦ moved mark p len n bytes h.1 (word_sound bytes len some h.0 refl)
      | inr h ↦ elim (split (is_digit b) (number bytes) (if is_blank b then blanks else (if b == 37 then comments else signs)) (found p n) h.1) [
        | inl i ↦ number_sound bytes p n some i.0 i.1
        | inr i ↦ elim (split (is_blank b) blanks (if b == 37 then comments else signs) (found p n) i.1) [
          | inl j ↦ moved Blank p 1 n bytes j.1 (blank_sound bytes some j.0)
          | inr j ↦ elim (split (b == 37) comments signs (found p n) j.1) [
            | inl k ↦ moved Comment p (prefix_len is_in_line bytes) n bytes k.1 (comment_sound bytes some (eqb-true b 37 k.0))
            | inr k ↦ sign_sound bytes p n some k.1
          ]
        ]
      ]
    ]

pub front_fits : (bytes : Text) (p : Piece) (n : ℕ) → 0 < length bytes → front bytes ≡ Some (p, n) → (0 < n) × (n ≤ length bytes)
front_fits bytes p n h e = let is = front_sound bytes p n h e in (is.some, is.fits)
