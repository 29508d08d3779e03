-- A layout is cut into blanks and what was laid out.
use Rattle.std.proofs.Common.{◌≡◌, ◌<◌, ◌≤◌, ◌-◌, ℕ, zero, suc, List, [], ◌∷◌, ◌++◌, length, length-append, map, take, reverse, Bool, true, false, refl, sym, ◌∙◌, ap, subst, arith, append_assoc, append-nil, inl, inr}
use Rattle.std.specs.Prelude.{if◌then◌else◌}
use Rattle.std.specs.List.{list_all, prefix_len, suffix_len}
use Rattle.std.specs.Char.{is_ascii_whitespace}
use Rattle.std.proofs.lemmas.Bool.{cases_Bool, and_parts, and_from}
use Rattle.std.proofs.lemmas.List.{reverse-append, length-reverse}
use Rattle.ioa_tokens.specs.Bytes.{Text, is_blank, is_in_line}
use Rattle.ioa_tokens.specs.Tokens.{Tok}
use Rattle.ioa_tokens.specs.Cutting.{Piece, Blank, Comment, Mark, Part, IsPiece, IsCut, ends, text_of}
use Rattle.ioa_layout.specs.declared.gap.Gap.{Gap}
use Rattle.ioa_layout.specs.declared.gap.Gap.TheVariants as gap
use Rattle.ioa_layout.specs.Ink.{see, seen, tidy, trimmed}
use Rattle.ioa_layout.specs.Gaps.{blanks, gap_text, AreGaps, AreAllGaps, following, laid, room_after}
use Rattle.ioa_layout.proofs.Tokens.{token_is_some, free_ends}

abbrev pub blank : ℕ → Part
blank b = record { piece = Blank; text = b ∷ [] }

abbrev pub blank_parts : Text → List Part
blank_parts [] = []
blank_parts (b ∷ bs) = blank b ∷ blank_parts bs

-- the parts of a layout behind the first
abbrev pub parts_after : List Part → List Gap → List Part
parts_after [] gs = blank 10 ∷ []
parts_after (q ∷ qs) [] = blank 10 ∷ []
parts_after (q ∷ qs) (g ∷ gs) = blank_parts (gap_text g) ++ q ∷ parts_after qs gs

abbrev pub parts_laid : List Part → List Gap → List Part
parts_laid [] gs = blank 10 ∷ []
parts_laid (p ∷ ps) gs = p ∷ parts_after ps gs

-- ---- their text

text_blank : (t : Text) (ps : List Part) → text_of (blank_parts t ++ ps) ≡ t ++ text_of ps
text_blank [] ps = refl
text_blank (b ∷ bs) ps = ap (λ t. b ∷ t) (text_blank bs ps)

text_after : (qs : List Part) (gs : List Gap) → text_of (parts_after qs gs) ≡ following qs gs
text_after [] gs = refl
text_after (q ∷ qs) [] = refl
text_after (q ∷ qs) (g ∷ gs) = text_blank (gap_text g) (q ∷ parts_after qs gs) ∙ ap (λ t. gap_text g ++ (q.text ++ t)) (text_after qs gs)

pub text_laid : (ps : List Part) (gs : List Gap) → text_of (parts_laid ps gs) ≡ laid ps gs
text_laid [] gs = refl
text_laid (p ∷ ps) gs = ap (λ t. p.text ++ t) (text_after ps gs)

-- ---- what is seen of them

abbrev is_seen : Piece → Bool
is_seen Blank = false
is_seen Comment = true
is_seen (Mark t) = true

-- tokens and comments
pub record IsInk (p : Part) : Type 0 where
  pub is : IsPiece p.piece p.text
  pub visible : is_seen p.piece ≡ true

abbrev pub AreInk : List Part → Type 0
AreInk [] = Unit {0}
AreInk (p ∷ ps) = IsInk p × AreInk ps

see_ink : (q : Piece) (p : Part) (ps : List Part) → is_seen q ≡ true → see q p ps ≡ p ∷ ps
see_ink Blank p ps h = absurd (cc)
see_ink Comment p ps h = refl
see_ink (Mark t) p ps h = refl

seen_blank : (t : Text) (ps : List Part) → seen (blank_parts t ++ ps) ≡ seen ps
seen_blank [] ps = refl
seen_blank (b ∷ bs) ps = seen_blank bs ps

seen_after : (room : ℕ) (p : Part) (qs : List Part) (gs : List Gap) → AreInk qs → AreGaps room p qs gs → seen (parts_after qs gs) ≡ qs
seen_after room p [] gs h k = refl
seen_after room p (q ∷ qs) [] h k = absurd k
seen_after room p (q ∷ qs) (g ∷ gs) h k =
    seen_blank (gap_text g) (q ∷ parts_after qs gs)
    ∙ see_ink q.piece q (seen (parts_after qs gs)) h.0.visible
    ∙ ap (λ t. q ∷ t) (seen_after (room_after g room - length q.text) q qs gs h.1 k.1)

-- ---- how they are cut

blank_ends : (t : Text) → ends Blank t ≡ true
blank_ends [] = refl
blank_ends (b ∷ bs) = refl

cut_blank : (t : Text) (ps : List Part) → list_all is_blank t ≡ true → IsCut ps [] → IsCut (blank_parts t ++ ps) []
cut_blank [] ps h k = k
cut_blank (b ∷ bs) ps h k =
    let parts = and_parts (is_blank b) (list_all is_blank bs) h in
    ((b, refl, parts.0), blank_ends (text_of (blank_parts bs ++ ps) ++ []), cut_blank bs ps parts.1 k)

blanks_blank : (n : ℕ) → list_all is_blank (blanks n) ≡ true
blanks_blank zero = refl
blanks_blank (suc n) = blanks_blank n

line_blank : (apart : Bool) (n : ℕ) → list_all is_blank (if apart then 10 ∷ blanks n else blanks n) ≡ true
line_blank true n = blanks_blank n
line_blank false n = blanks_blank n

gap_blank : (g : Gap) → list_all is_blank (gap_text g) ≡ true
gap_blank gap.Nothing = refl
gap_blank gap.Space = refl
gap_blank gap.Margin = refl
gap_blank (gap.Line line) = line_blank line.apart line.indent

-- everything ends at the end of a line
pub line_ends : (p : Piece) (rest : Text) → ends p (10 ∷ rest) ≡ true
line_ends Blank rest = refl
line_ends Comment rest = refl
line_ends (Mark t) rest = free_ends t 10 rest refl

-- and each token at a blank
pub space_ends : (t : Tok) (rest : Text) → ends (Mark t) (32 ∷ rest) ≡ true
space_ends t rest = free_ends t 32 rest refl

ends_before : (p : Piece) (t rest : Text) → 0 < length t → ends p t ≡ true → ends p (t ++ rest) ≡ true
ends_before p [] rest some h = absurd (omega arith)
ends_before p (b ∷ bs) rest some h = h

pub piece_is_some : (p : Piece) (text : Text) → IsPiece p text → 0 < length text
piece_is_some Blank text h = omega (arith, ap length h.1)
piece_is_some Comment text h = omega (arith, ap length h.1)
piece_is_some (Mark t) text h = token_is_some t text h

gap_ends : (p q : Part) (g : Gap) (ps : List Part) → IsPiece q.piece q.text → ends p.piece (gap_text g ++ q.text) ≡ true
    → ends p.piece (text_of (blank_parts (gap_text g) ++ q ∷ ps) ++ []) ≡ true
gap_ends p q g ps is h =
    let whole : (gap_text g ++ q.text) ++ text_of ps ≡ text_of (blank_parts (gap_text g) ++ q ∷ ps) ++ [] =
    append_assoc (gap_text g) q.text (text_of ps) ∙ sym (text_blank (gap_text g) (q ∷ ps)) ∙ sym (append-nil (text_of (blank_parts (gap_text g) ++ q ∷ ps))) in
    subst (λ t. ends p.piece t ≡ true) whole
    (ends_before p.piece (gap_text g ++ q.text) (text_of ps) (omega (arith, length-append (gap_text g) q.text, piece_is_some q.piece q.text is)) h)

-- the parts behind a part are cut, and it ends before them
record IsCutAfter (p : Part) (ps : List Part) : Type 0 where
  cut : IsCut ps []
  ending : ends p.piece (text_of ps ++ []) ≡ true

cut_after : (room : ℕ) (p : Part) (qs : List Part) (gs : List Gap) → AreInk qs → AreGaps room p qs gs → IsCutAfter p (parts_after qs gs)
cut_after room p [] gs h k = record { cut = ((10, refl, refl), blank_ends [], tt); ending = line_ends p.piece [] }
cut_after room p (q ∷ qs) [] h k = absurd k
cut_after room p (q ∷ qs) (g ∷ gs) h k =
    let later = cut_after (room_after g room - length q.text) q qs gs h.1 k.1 in
    record {
      cut = cut_blank (gap_text g) (q ∷ parts_after qs gs) (gap_blank g) (h.0.is, later.ending, later.cut);
      ending = gap_ends p q g (parts_after qs gs) h.0.is k.0.apart;
    }

pub cut_laid : (ps : List Part) (gs : List Gap) → AreInk ps → AreAllGaps ps gs → IsCut (parts_laid ps gs) []
cut_laid [] gs h k = ((10, refl, refl), blank_ends [], tt)
cut_laid (p ∷ ps) gs h k = let later = cut_after (100 - length p.text) p ps gs h.1 k in (h.0.is, later.ending, later.cut)

pub seen_laid : (ps : List Part) (gs : List Gap) → AreInk ps → AreAllGaps ps gs → seen (parts_laid ps gs) ≡ ps
seen_laid [] gs h k = refl
seen_laid (p ∷ ps) gs h k = see_ink p.piece p (seen (parts_after ps gs)) h.0.visible ∙ ap (λ t. p ∷ t) (seen_after (100 - length p.text) p ps gs h.1 k)

-- ---- a trimmed comment is one

all_taken : (test : ℕ → Bool) (n : ℕ) (bs : Text) → list_all test bs ≡ true → list_all test (take n bs) ≡ true
all_taken test zero bs h = refl
all_taken test (suc n) [] h = refl
all_taken test (suc n) (b ∷ bs) h =
    let parts = and_parts (test b) (list_all test bs) h in
    and_from (test b) (list_all test (take n bs)) parts.0 (all_taken test n bs parts.1)

last_stops : (test : ℕ → Bool) (bs : Text) (b : ℕ) → test b ≡ false → prefix_len test (bs ++ b ∷ []) ≤ length bs
last_stops test [] b h = rw h (omega arith)
last_stops test (x ∷ bs) b h = elim (cases_Bool (test x)) [
  | inl passes ↦ rw passes (omega (arith, last_stops test bs b h))
  | inr fails ↦ rw fails (omega arith)
]

first_stays : (line : Text) → suffix_len is_ascii_whitespace (37 ∷ line) ≤ length line
first_stays line =
    let turned : reverse (37 ∷ line) ≡ reverse line ++ 37 ∷ [] = reverse-append (37 ∷ []) line in
    subst (λ t. prefix_len is_ascii_whitespace t ≤ length line) (sym turned) (omega (arith, last_stops is_ascii_whitespace (reverse line) 37 refl, length-reverse line))

trimmed_is : (line : Text) → trimmed (37 ∷ line) ≡ 37 ∷ take (length line - suffix_len is_ascii_whitespace (37 ∷ line)) line
trimmed_is line =
    let count : length (37 ∷ line) - suffix_len is_ascii_whitespace (37 ∷ line) ≡ suc (length line - suffix_len is_ascii_whitespace (37 ∷ line)) = omega (arith, first_stays line) in
    ap (λ n. take n (37 ∷ line)) count

comment_trimmed : (text : Text) → IsPiece Comment text → IsPiece Comment (trimmed text)
comment_trimmed text h = (
  take (length h.0 - suffix_len is_ascii_whitespace (37 ∷ h.0)) h.0,
  ap trimmed h.1 ∙ trimmed_is h.0,
  all_taken is_in_line (length h.0 - suffix_len is_ascii_whitespace (37 ∷ h.0)) h.0 h.2,
)

see_tidy : (q : Piece) (text : Text) (ps : List Part) → IsPiece q text → AreInk (map tidy ps) → AreInk (map tidy (see q (record { piece = q; text = text }) ps))
see_tidy Blank text ps h k = k
see_tidy Comment text ps h k = (record { is = comment_trimmed text h; visible = refl }, k)
see_tidy (Mark t) text ps h k = (record { is = h; visible = refl }, k)

pub seen_tidy : (ps : List Part) (rest : Text) → IsCut ps rest → AreInk (map tidy (seen ps))
seen_tidy [] rest h = tt
seen_tidy (p ∷ ps) rest h = see_tidy p.piece p.text (seen ps) h.0 (seen_tidy ps rest h.2)
