-- A layout spells its tokens.
use Rattle.std.proofs.Common.{◌≡◌, ◌≤◌, ◌<◌, ◌+◌, ◌-◌, ◌*◌, ◌/◌, ◌%◌, ℕ, List, [], ◌∷◌, ◌++◌, length, length-append, map, Bool, true, false, ◌&&◌, ◌||◌, refl, sym, ◌∙◌, ap, subst, arith, inl, inr, append-nil, decimal}
use Rattle.std.specs.Prelude.{◌==◌, if◌then◌else◌}
use Rattle.std.specs.List.{list_all}
use Rattle.std.specs.Str.{IsAscii}
use Rattle.std.proofs.lemmas.Bool.{or_cases, or_left, or_right, and_parts, and_from, and_right, cond_both}
use Rattle.std.proofs.lemmas.Bool.Decides.{nat_tests}
use Rattle.std.proofs.lemmas.List.Folds.{list_all-append}
use Rattle.std.proofs.lemmas.List.Sums.{fold_push}
use Rattle.std.proofs.lemmas.Fmt.{decimal_by_steps}
use Rattle.ioa_tokens.specs.declared.word.Word.{Word}
use Rattle.ioa_tokens.specs.declared.word.Word.TheVariants as w
use Rattle.ioa_tokens.specs.Bytes.{Text, is_digit, is_word_byte, is_blank, value_of, stops}
use Rattle.ioa_tokens.specs.Tokens.{Tok, Name, Num, Key, Placed}
use Rattle.ioa_tokens.specs.Spelling.{spelling, is_reserved, takes_equal, IsNumber, IsToken, goes_on}
use Rattle.ioa_tokens.specs.Cutting.{Piece, Blank, Comment, Mark, IsPiece, ends, Part, IsCut, keep, placed_from, IsTokens, IsBadAt}
use Rattle.ioa_tokens.specs.Cutting as cutting
use Rattle.ioa_tokens.specs.Layout.{begins_line, hugs_left, is_tight, is_called, is_open, between, text_of, following, layout, IsProper, AreProper}
use Rattle.ioa_tokens.proofs.Fronts.{all_mono}
use Rattle.ioa_tokens.proofs.Ascii.{narrow, word_is_narrow, digit_is_narrow, blank_is_narrow, narrow_is_ascii}
use Rattle.ioa_tokens.proofs.Cuts.{tokens_once, tokens_or_bad}

-- ---- where tokens end

-- no token goes on with a byte that is neither of a word nor `=`
never_on : (t : Tok) (b : ℕ) → is_word_byte b ≡ false → (b == 61) ≡ false → goes_on t b ≡ false
never_on (Name s) b h e = h
never_on (Num n) b h e = h
never_on (Key v) b h e = cond_both (is_reserved v) (is_word_byte b) (takes_equal v && b == 61) (λ t. t ≡ false) (λ _. h) (λ _. and_right (takes_equal v) (b == 61) e)

ends_before : (t : Tok) (b : ℕ) (rest : Text) → is_word_byte b ≡ false → (b == 61) ≡ false → stops (goes_on t) (b ∷ rest) ≡ true
ends_before t b rest h e = rw (never_on t b h e) refl

stops_always : (test : ℕ → Bool) → ((b : ℕ) → test b ≡ false) → (bs : Text) → stops test bs ≡ true
stops_always test h [] = refl
stops_always test h (b ∷ bs) = rw (h b) refl

tight_ends : (t : Tok) (rest : Text) → is_tight t ≡ true → stops (goes_on t) rest ≡ true
tight_ends (Name s) rest h = absurd (cc)
tight_ends (Num n) rest h = absurd (cc)
tight_ends (Key w.Type) rest h = absurd (cc)
tight_ends (Key w.Enumeration) rest h = absurd (cc)
tight_ends (Key w.Of) rest h = absurd (cc)
tight_ends (Key w.Automaton) rest h = absurd (cc)
tight_ends (Key w.Signature) rest h = absurd (cc)
tight_ends (Key w.Input) rest h = absurd (cc)
tight_ends (Key w.Output) rest h = absurd (cc)
tight_ends (Key w.Internal) rest h = absurd (cc)
tight_ends (Key w.Const) rest h = absurd (cc)
tight_ends (Key w.States) rest h = absurd (cc)
tight_ends (Key w.Transitions) rest h = absurd (cc)
tight_ends (Key w.Pre) rest h = absurd (cc)
tight_ends (Key w.Eff) rest h = absurd (cc)
tight_ends (Key w.Tasks) rest h = absurd (cc)
tight_ends (Key w.Components) rest h = absurd (cc)
tight_ends (Key w.If) rest h = absurd (cc)
tight_ends (Key w.Then) rest h = absurd (cc)
tight_ends (Key w.Elseif) rest h = absurd (cc)
tight_ends (Key w.Else) rest h = absurd (cc)
tight_ends (Key w.Fi) rest h = absurd (cc)
tight_ends (Key w.For) rest h = absurd (cc)
tight_ends (Key w.Do) rest h = absurd (cc)
tight_ends (Key w.Od) rest h = absurd (cc)
tight_ends (Key w.Empty) rest h = absurd (cc)
tight_ends (Key w.Fill) rest h = absurd (cc)
tight_ends (Key w.Head) rest h = absurd (cc)
tight_ends (Key w.Tail) rest h = absurd (cc)
tight_ends (Key w.Len) rest h = absurd (cc)
tight_ends (Key w.Append) rest h = absurd (cc)
tight_ends (Key w.True) rest h = absurd (cc)
tight_ends (Key w.False) rest h = absurd (cc)
tight_ends (Key w.And) rest h = absurd (cc)
tight_ends (Key w.Or) rest h = absurd (cc)
tight_ends (Key w.Not) rest h = absurd (cc)
tight_ends (Key w.Mod) rest h = absurd (cc)
tight_ends (Key w.Bool) rest h = absurd (cc)
tight_ends (Key w.Int) rest h = absurd (cc)
tight_ends (Key w.Seq) rest h = absurd (cc)
tight_ends (Key w.Array) rest h = absurd (cc)
tight_ends (Key w.Idle) rest h = absurd (cc)
tight_ends (Key w.Hidden) rest h = absurd (cc)
tight_ends (Key w.Assign) rest h = absurd (cc)
tight_ends (Key w.DotDot) rest h = stops_always (goes_on (Key w.DotDot)) (λ b. refl) rest
tight_ends (Key w.Colon) rest h = absurd (cc)
tight_ends (Key w.Comma) rest h = absurd (cc)
tight_ends (Key w.Semicolon) rest h = absurd (cc)
tight_ends (Key w.Open) rest h = stops_always (goes_on (Key w.Open)) (λ b. refl) rest
tight_ends (Key w.Close) rest h = absurd (cc)
tight_ends (Key w.OpenBracket) rest h = stops_always (goes_on (Key w.OpenBracket)) (λ b. refl) rest
tight_ends (Key w.CloseBracket) rest h = absurd (cc)
tight_ends (Key w.OpenBrace) rest h = absurd (cc)
tight_ends (Key w.CloseBrace) rest h = absurd (cc)
tight_ends (Key w.Equal) rest h = absurd (cc)
tight_ends (Key w.NotEqual) rest h = absurd (cc)
tight_ends (Key w.Less) rest h = absurd (cc)
tight_ends (Key w.AtMost) rest h = absurd (cc)
tight_ends (Key w.Greater) rest h = absurd (cc)
tight_ends (Key w.AtLeast) rest h = absurd (cc)
tight_ends (Key w.Plus) rest h = absurd (cc)
tight_ends (Key w.Minus) rest h = absurd (cc)
tight_ends (Key w.Times) rest h = absurd (cc)

-- the signs that may follow directly begin with no byte with which a token goes on
hugged : (v : Word) (t : Tok) (rest : Text) → (hugs_left v || is_open v) ≡ true → stops (goes_on t) (spelling v ++ rest) ≡ true
hugged w.Type t rest h = absurd (cc)
hugged w.Enumeration t rest h = absurd (cc)
hugged w.Of t rest h = absurd (cc)
hugged w.Automaton t rest h = absurd (cc)
hugged w.Signature t rest h = absurd (cc)
hugged w.Input t rest h = absurd (cc)
hugged w.Output t rest h = absurd (cc)
hugged w.Internal t rest h = absurd (cc)
hugged w.Const t rest h = absurd (cc)
hugged w.States t rest h = absurd (cc)
hugged w.Transitions t rest h = absurd (cc)
hugged w.Pre t rest h = absurd (cc)
hugged w.Eff t rest h = absurd (cc)
hugged w.Tasks t rest h = absurd (cc)
hugged w.Components t rest h = absurd (cc)
hugged w.If t rest h = absurd (cc)
hugged w.Then t rest h = absurd (cc)
hugged w.Elseif t rest h = absurd (cc)
hugged w.Else t rest h = absurd (cc)
hugged w.Fi t rest h = absurd (cc)
hugged w.For t rest h = absurd (cc)
hugged w.Do t rest h = absurd (cc)
hugged w.Od t rest h = absurd (cc)
hugged w.Empty t rest h = absurd (cc)
hugged w.Fill t rest h = absurd (cc)
hugged w.Head t rest h = absurd (cc)
hugged w.Tail t rest h = absurd (cc)
hugged w.Len t rest h = absurd (cc)
hugged w.Append t rest h = absurd (cc)
hugged w.True t rest h = absurd (cc)
hugged w.False t rest h = absurd (cc)
hugged w.And t rest h = absurd (cc)
hugged w.Or t rest h = absurd (cc)
hugged w.Not t rest h = absurd (cc)
hugged w.Mod t rest h = absurd (cc)
hugged w.Bool t rest h = absurd (cc)
hugged w.Int t rest h = absurd (cc)
hugged w.Seq t rest h = absurd (cc)
hugged w.Array t rest h = absurd (cc)
hugged w.Idle t rest h = absurd (cc)
hugged w.Hidden t rest h = absurd (cc)
hugged w.Assign t rest h = absurd (cc)
hugged w.DotDot t rest h = ends_before t 46 (46 ∷ rest) refl refl
hugged w.Colon t rest h = ends_before t 58 rest refl refl
hugged w.Comma t rest h = ends_before t 44 rest refl refl
hugged w.Semicolon t rest h = ends_before t 59 rest refl refl
hugged w.Open t rest h = ends_before t 40 rest refl refl
hugged w.Close t rest h = ends_before t 41 rest refl refl
hugged w.OpenBracket t rest h = ends_before t 91 rest refl refl
hugged w.CloseBracket t rest h = ends_before t 93 rest refl refl
hugged w.OpenBrace t rest h = absurd (cc)
hugged w.CloseBrace t rest h = absurd (cc)
hugged w.Equal t rest h = absurd (cc)
hugged w.NotEqual t rest h = absurd (cc)
hugged w.Less t rest h = absurd (cc)
hugged w.AtMost t rest h = absurd (cc)
hugged w.Greater t rest h = absurd (cc)
hugged w.AtLeast t rest h = absurd (cc)
hugged w.Plus t rest h = absurd (cc)
hugged w.Minus t rest h = absurd (cc)
hugged w.Times t rest h = absurd (cc)

after_space : (t : Tok) (tight : Bool) (rest : Text) → is_tight t ≡ tight → stops (goes_on t) ((if tight then [] else 32 ∷ []) ++ rest) ≡ true
after_space t true rest h = tight_ends t rest h
after_space t false rest h = ends_before t 32 rest refl refl

after_word : (t : Tok) (v : Word) (line hugs : Bool) (rest : Text) → (hugs_left v || is_tight t || (is_called t && is_open v)) ≡ hugs
    → stops (goes_on t) ((if line then 10 ∷ [] else (if hugs then [] else 32 ∷ [])) ++ (spelling v ++ rest)) ≡ true
after_word t v true hugs rest h = ends_before t 10 (spelling v ++ rest) refl refl
after_word t v false false rest h = ends_before t 32 (spelling v ++ rest) refl refl
after_word t v false true rest h = elim (or_cases (hugs_left v || is_tight t) (is_called t && is_open v) h) [
  | inl k ↦ elim (or_cases (hugs_left v) (is_tight t) k) [
    | inl hugs ↦ hugged v t rest (or_left (hugs_left v) (is_open v) hugs)
    | inr tight ↦ tight_ends t (spelling v ++ rest) tight
  ]
  | inr k ↦ hugged v t rest (or_right (hugs_left v) (is_open v) (and_parts (is_called t) (is_open v) k).1)
]

-- a token ends where the layout goes on
next_ends : (t u : Tok) (rest : Text) → stops (goes_on t) (between t u ++ (text_of u ++ rest)) ≡ true
next_ends t (Name s) rest = after_space t (is_tight t) (s ++ rest) refl
next_ends t (Num n) rest = after_space t (is_tight t) (decimal n ++ rest) refl
next_ends t (Key v) rest = after_word t v (begins_line v) (hugs_left v || is_tight t || (is_called t && is_open v)) rest refl

pub token_ends : (t : Tok) (us : List Tok) → stops (goes_on t) (following t us) ≡ true
token_ends t [] = ends_before t 10 [] refl refl
token_ends t (u ∷ us) = next_ends t u (following u us)

-- ---- a number's text

record IsDigits (n : ℕ) (ds : Text) : Type 0 where
  some : 0 < length ds
  digits : list_all is_digit ds ≡ true
  value : value_of ds ≡ n

digit_is : (n : ℕ) → n < 10 → is_digit (48 + n) ≡ true
digit_is n h = grind (arith, nat_tests)

one_digit : (n : ℕ) → n < 10 → IsDigits n ((48 + n) ∷ [])
one_digit n h = record { some = omega arith; digits = and_from (is_digit (48 + n)) true (digit_is n h) refl; value = omega arith }

more_digits : (n : ℕ) (ds : Text) → 10 ≤ n → IsDigits (n / 10) ds → IsDigits n (ds ++ ((48 + n % 10) ∷ []))
more_digits n ds h is = record {
  some = omega (arith, length-append ds ((48 + n % 10) ∷ []), is.some);
  digits = list_all-append is_digit ds ((48 + n % 10) ∷ []) ∙ and_from (list_all is_digit ds) (is_digit (48 + n % 10) && true) is.digits (and_from (is_digit (48 + n % 10)) true (digit_is (n % 10) (omega arith)) refl);
  value = fold_push (λ m d. 10 * m + (d - 48)) 0 ds (48 + n % 10) ∙ omega (arith, is.value);
}

number_text : (n : ℕ) → n ≤ 9223372036854775807 → IsNumber n (decimal n)
number_text n h =
    let is : IsDigits n (decimal n) = decimal_by_steps IsDigits one_digit more_digits n (omega arith) in
    record { some = is.some; digits = is.digits; value = is.value; fits = h }

-- ---- the parts of a layout

-- blanks, and then further parts
abbrev with_gap : Text → List Part → List Part
with_gap [] ps = ps
with_gap (b ∷ bs) ps = record { piece = Blank; text = b ∷ [] } ∷ with_gap bs ps

abbrev mark : Tok → Part
mark t = record { piece = Mark t; text = text_of t }

abbrev parts_after : Tok → List Tok → List Part
parts_after t [] = with_gap (10 ∷ []) []
parts_after t (u ∷ us) = with_gap (between t u) (mark u ∷ parts_after u us)

abbrev parts_of : List Tok → List Part
parts_of [] = with_gap (10 ∷ []) []
parts_of (t ∷ ts) = mark t ∷ parts_after t ts

text_gap : (bs : Text) (ps : List Part) → cutting.text_of (with_gap bs ps) ≡ bs ++ cutting.text_of ps
text_gap [] ps = refl
text_gap (b ∷ bs) ps = ap (λ t. b ∷ t) (text_gap bs ps)

text_after : (t : Tok) (us : List Tok) → cutting.text_of (parts_after t us) ≡ following t us
text_after t [] = refl
text_after t (u ∷ us) = text_gap (between t u) (mark u ∷ parts_after u us) ∙ ap (λ x. between t u ++ (text_of u ++ x)) (text_after u us)

text_parts : (ts : List Tok) → cutting.text_of (parts_of ts) ≡ layout ts
text_parts [] = refl
text_parts (t ∷ ts) = ap (λ x. text_of t ++ x) (text_after t ts)

blank_ends : (rest : Text) → ends Blank rest ≡ true
blank_ends [] = refl
blank_ends (b ∷ bs) = refl

cut_gap : (bs : Text) (ps : List Part) → list_all is_blank bs ≡ true → IsCut ps [] → IsCut (with_gap bs ps) []
cut_gap [] ps h k = k
cut_gap (b ∷ bs) ps h k =
    let parts = and_parts (is_blank b) (list_all is_blank bs) h in
    ((b, refl, parts.0), blank_ends (cutting.text_of (with_gap bs ps) ++ []), cut_gap bs ps parts.1 k)

gap_space : (tight : Bool) → list_all is_blank (if tight then [] else 32 ∷ []) ≡ true
gap_space true = refl
gap_space false = refl

gap_line : (line hugs : Bool) → list_all is_blank (if line then 10 ∷ [] else (if hugs then [] else 32 ∷ [])) ≡ true
gap_line true hugs = refl
gap_line false hugs = gap_space hugs

gap_is_blank : (t u : Tok) → list_all is_blank (between t u) ≡ true
gap_is_blank t (Name s) = gap_space (is_tight t)
gap_is_blank t (Num n) = gap_space (is_tight t)
gap_is_blank t (Key v) = gap_line (begins_line v) (hugs_left v || is_tight t || (is_called t && is_open v))

token_text : (t : Tok) → IsProper t → IsToken t (text_of t)
token_text (Name s) h = (refl, h)
token_text (Num n) h = number_text n h
token_text (Key v) h = refl

mark_ends : (t : Tok) (us : List Tok) → stops (goes_on t) (cutting.text_of (parts_after t us) ++ []) ≡ true
mark_ends t us = subst (λ x. stops (goes_on t) x ≡ true) (sym (append-nil (cutting.text_of (parts_after t us)) ∙ text_after t us)) (token_ends t us)

cut_after : (t : Tok) (us : List Tok) → AreProper us → IsCut (parts_after t us) []
cut_after t [] h = cut_gap (10 ∷ []) [] refl tt
cut_after t (u ∷ us) h = cut_gap (between t u) (mark u ∷ parts_after u us) (gap_is_blank t u) (token_text u h.0, mark_ends u us, cut_after u us h.1)

cut_parts : (ts : List Tok) → AreProper ts → IsCut (parts_of ts) []
cut_parts [] h = cut_gap (10 ∷ []) [] refl tt
cut_parts (t ∷ ts) h = (token_text t h.0, mark_ends t ts, cut_after t ts h.1)

-- ---- the tokens of a layout

-- the tokens of parts, without places
abbrev keep_mark : Piece → List Tok → List Tok
keep_mark Blank ts = ts
keep_mark Comment ts = ts
keep_mark (Mark t) ts = t ∷ ts

abbrev marks : List Part → List Tok
marks [] = []
marks (p ∷ ps) = keep_mark p.piece (marks ps)

keep_tok : (p : Piece) (at : ℕ) (ts : List Placed) → map (λ p. p.tok) (keep p at ts) ≡ keep_mark p (map (λ p. p.tok) ts)
keep_tok Blank at ts = refl
keep_tok Comment at ts = refl
keep_tok (Mark t) at ts = refl

kept_marks : (at : ℕ) (ps : List Part) → map (λ p. p.tok) (placed_from at ps) ≡ marks ps
kept_marks at [] = refl
kept_marks at (p ∷ ps) = keep_tok p.piece at (placed_from (at + length p.text) ps) ∙ ap (λ ts. keep_mark p.piece ts) (kept_marks (at + length p.text) ps)

marks_gap : (bs : Text) (ps : List Part) → marks (with_gap bs ps) ≡ marks ps
marks_gap [] ps = refl
marks_gap (b ∷ bs) ps = marks_gap bs ps

marks_after : (t : Tok) (us : List Tok) → marks (parts_after t us) ≡ us
marks_after t [] = refl
marks_after t (u ∷ us) = marks_gap (between t u) (mark u ∷ parts_after u us) ∙ ap (λ ts. u ∷ ts) (marks_after u us)

marks_of : (ts : List Tok) → marks (parts_of ts) ≡ ts
marks_of [] = refl
marks_of (t ∷ ts) = ap (λ us. t ∷ us) (marks_after t ts)

-- ---- ASCII

spelling_is_narrow : (v : Word) → list_all narrow (spelling v) ≡ true
spelling_is_narrow w.Type = refl
spelling_is_narrow w.Enumeration = refl
spelling_is_narrow w.Of = refl
spelling_is_narrow w.Automaton = refl
spelling_is_narrow w.Signature = refl
spelling_is_narrow w.Input = refl
spelling_is_narrow w.Output = refl
spelling_is_narrow w.Internal = refl
spelling_is_narrow w.Const = refl
spelling_is_narrow w.States = refl
spelling_is_narrow w.Transitions = refl
spelling_is_narrow w.Pre = refl
spelling_is_narrow w.Eff = refl
spelling_is_narrow w.Tasks = refl
spelling_is_narrow w.Components = refl
spelling_is_narrow w.If = refl
spelling_is_narrow w.Then = refl
spelling_is_narrow w.Elseif = refl
spelling_is_narrow w.Else = refl
spelling_is_narrow w.Fi = refl
spelling_is_narrow w.For = refl
spelling_is_narrow w.Do = refl
spelling_is_narrow w.Od = refl
spelling_is_narrow w.Empty = refl
spelling_is_narrow w.Fill = refl
spelling_is_narrow w.Head = refl
spelling_is_narrow w.Tail = refl
spelling_is_narrow w.Len = refl
spelling_is_narrow w.Append = refl
spelling_is_narrow w.True = refl
spelling_is_narrow w.False = refl
spelling_is_narrow w.And = refl
spelling_is_narrow w.Or = refl
spelling_is_narrow w.Not = refl
spelling_is_narrow w.Mod = refl
spelling_is_narrow w.Bool = refl
spelling_is_narrow w.Int = refl
spelling_is_narrow w.Seq = refl
spelling_is_narrow w.Array = refl
spelling_is_narrow w.Idle = refl
spelling_is_narrow w.Hidden = refl
spelling_is_narrow w.Assign = refl
spelling_is_narrow w.DotDot = refl
spelling_is_narrow w.Colon = refl
spelling_is_narrow w.Comma = refl
spelling_is_narrow w.Semicolon = refl
spelling_is_narrow w.Open = refl
spelling_is_narrow w.Close = refl
spelling_is_narrow w.OpenBracket = refl
spelling_is_narrow w.CloseBracket = refl
spelling_is_narrow w.OpenBrace = refl
spelling_is_narrow w.CloseBrace = refl
spelling_is_narrow w.Equal = refl
spelling_is_narrow w.NotEqual = refl
spelling_is_narrow w.Less = refl
spelling_is_narrow w.AtMost = refl
spelling_is_narrow w.Greater = refl
spelling_is_narrow w.AtLeast = refl
spelling_is_narrow w.Plus = refl
spelling_is_narrow w.Minus = refl
spelling_is_narrow w.Times = refl

text_is_narrow : (t : Tok) → IsProper t → list_all narrow (text_of t) ≡ true
text_is_narrow (Name s) h = all_mono is_word_byte narrow word_is_narrow s h.goes_on
text_is_narrow (Num n) h = all_mono is_digit narrow digit_is_narrow (decimal n) (number_text n h).digits
text_is_narrow (Key v) h = spelling_is_narrow v

both_narrow : (a b : Text) → list_all narrow a ≡ true → list_all narrow b ≡ true → list_all narrow (a ++ b) ≡ true
both_narrow a b h k = list_all-append narrow a b ∙ and_from (list_all narrow a) (list_all narrow b) h k

following_is_narrow : (t : Tok) (us : List Tok) → AreProper us → list_all narrow (following t us) ≡ true
following_is_narrow t [] h = refl
following_is_narrow t (u ∷ us) h = both_narrow (between t u) (text_of u ++ following u us) (all_mono is_blank narrow blank_is_narrow (between t u) (gap_is_blank t u))
    (both_narrow (text_of u) (following u us) (text_is_narrow u h.0) (following_is_narrow u us h.1))

layout_is_narrow : (ts : List Tok) → AreProper ts → list_all narrow (layout ts) ≡ true
layout_is_narrow [] h = refl
layout_is_narrow (t ∷ ts) h = both_narrow (text_of t) (following t ts) (text_is_narrow t h.0) (following_is_narrow t ts h.1)

pub layout_is_ascii : (ts : List Tok) → AreProper ts → IsAscii (layout ts)
layout_is_ascii ts h = narrow_is_ascii (layout ts) (layout_is_narrow ts h)

layout_is_cut : (ts : List Tok) → AreProper ts → IsTokens (layout ts) (placed_from 0 (parts_of ts))
layout_is_cut ts h = record { parts = parts_of ts; whole = text_parts ts; cut = cut_parts ts h; kept = refl }

layout_tokens : (ts : List Tok) → map (λ p. p.tok) (placed_from 0 (parts_of ts)) ≡ ts
layout_tokens ts = kept_marks 0 (parts_of ts) ∙ marks_of ts

pub layout_is_spelled : (ts : List Tok) → AreProper ts → (placed : List Placed) × IsTokens (layout ts) placed × (map (λ p. p.tok) placed ≡ ts)
layout_is_spelled ts h = (placed_from 0 (parts_of ts), layout_is_cut ts h, layout_tokens ts)

-- whatever tokens a layout is read as, they are the ones that were laid out
pub read_back : (ts : List Tok) (ps : List Placed) → AreProper ts → IsTokens (layout ts) ps → map (λ p. p.tok) ps ≡ ts
read_back ts ps h k = ap (λ us. map (λ p. p.tok) us) (tokens_once (layout ts) ps (placed_from 0 (parts_of ts)) k (layout_is_cut ts h)) ∙ layout_tokens ts

pub layout_is_not_bad : (ts : List Tok) (at : ℕ) → AreProper ts → IsBadAt (layout ts) at → ⊥
layout_is_not_bad ts at h k = tokens_or_bad (layout ts) (placed_from 0 (parts_of ts)) at (layout_is_cut ts h) k
