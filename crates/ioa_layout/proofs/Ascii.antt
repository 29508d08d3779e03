-- A layout of ASCII is ASCII.
use Rattle.std.proofs.Common.{◌≡◌, ◌-◌, ◌<◌, ℕ, zero, suc, List, [], ◌∷◌, ◌++◌, length, map, Bool, true, false, refl, sym, subst, arith}
use Rattle.std.specs.Prelude.{if◌then◌else◌}
use Rattle.std.specs.Str.{IsAscii}
use Rattle.std.specs.List.{suffix_len}
use Rattle.std.specs.Char.{is_ascii_whitespace}
use Rattle.std.proofs.lemmas.List.{take_at, drop_at}
use Rattle.std.proofs.lemmas.Str.{IsAscii-take, IsAscii-drop, IsAscii-append}
use Rattle.std.proofs.lemmas.Str.Ascii.{IsAscii-nil, IsAscii-cons}
use Rattle.ioa_tokens.specs.Bytes.{Text}
use Rattle.ioa_tokens.specs.Cutting.{Piece, Blank, Comment, Mark, Part, text_of}
use Rattle.ioa_layout.specs.declared.gap.Gap.{Gap}
use Rattle.ioa_layout.specs.declared.gap.Gap.TheVariants as gap
use Rattle.ioa_layout.specs.Ink.{see, seen, tidy}
use Rattle.ioa_layout.specs.Gaps.{blanks, gap_text, following, laid}

abbrev AreAscii : List Part → Type 0
AreAscii [] = Unit {0}
AreAscii (p ∷ ps) = IsAscii p.text × AreAscii ps

front_ascii : (a b : Text) → IsAscii (a ++ b) → IsAscii a
front_ascii a b h = subst (λ t. IsAscii t) (take_at a b (length a) refl) (IsAscii-take (a ++ b) (length a) h)

rest_ascii : (a b : Text) → IsAscii (a ++ b) → IsAscii b
rest_ascii a b h = subst (λ t. IsAscii t) (drop_at a b (length a) refl) (IsAscii-drop (a ++ b) (length a) h)

parts_ascii : (ps : List Part) → IsAscii (text_of ps) → AreAscii ps
parts_ascii [] h = tt
parts_ascii (p ∷ ps) h = (front_ascii p.text (text_of ps) h, parts_ascii ps (rest_ascii p.text (text_of ps) h))

see_ascii : (q : Piece) (text : Text) (ps : List Part) → IsAscii text → AreAscii (map tidy ps) → AreAscii (map tidy (see q (record { piece = q; text = text }) ps))
see_ascii Blank text ps h k = k
see_ascii Comment text ps h k = (IsAscii-take text (length text - suffix_len is_ascii_whitespace text) h, k)
see_ascii (Mark t) text ps h k = (h, k)

seen_ascii : (ps : List Part) → AreAscii ps → AreAscii (map tidy (seen ps))
seen_ascii [] h = tt
seen_ascii (p ∷ ps) h = see_ascii p.piece p.text (seen ps) h.0 (seen_ascii ps h.1)

one_ascii : (b : ℕ) → b < 128 → IsAscii (b ∷ [])
one_ascii b h = IsAscii-cons b [] h IsAscii-nil

blanks_ascii : (n : ℕ) → IsAscii (blanks n)
blanks_ascii zero = IsAscii-nil
blanks_ascii (suc n) = IsAscii-cons 32 (blanks n) (omega arith) (blanks_ascii n)

line_ascii : (apart : Bool) (n : ℕ) → IsAscii (if apart then 10 ∷ blanks n else blanks n)
line_ascii true n = IsAscii-cons 10 (blanks n) (omega arith) (blanks_ascii n)
line_ascii false n = blanks_ascii n

gap_ascii : (g : Gap) → IsAscii (gap_text g)
gap_ascii gap.Nothing = IsAscii-nil
gap_ascii gap.Space = one_ascii 32 (omega arith)
gap_ascii gap.Margin = IsAscii-cons 32 (32 ∷ []) (omega arith) (one_ascii 32 (omega arith))
gap_ascii (gap.Line line) = IsAscii-cons 10 (if line.apart then 10 ∷ blanks line.indent else blanks line.indent) (omega arith) (line_ascii line.apart line.indent)

following_ascii : (ps : List Part) (gs : List Gap) → AreAscii ps → IsAscii (following ps gs)
following_ascii [] gs h = one_ascii 10 (omega arith)
following_ascii (p ∷ ps) [] h = one_ascii 10 (omega arith)
following_ascii (p ∷ ps) (g ∷ gs) h =
    IsAscii-append (gap_text g) (p.text ++ following ps gs) (gap_ascii g) (IsAscii-append p.text (following ps gs) h.0 (following_ascii ps gs h.1))

laid_ascii : (ps : List Part) (gs : List Gap) → AreAscii ps → IsAscii (laid ps gs)
laid_ascii [] gs h = one_ascii 10 (omega arith)
laid_ascii (p ∷ ps) gs h = IsAscii-append p.text (following ps gs) h.0 (following_ascii ps gs h.1)

-- what is shown of an ASCII source is laid out as ASCII
pub layout_ascii : (source : Text) (ps : List Part) (gs : List Gap) → text_of ps ≡ source → IsAscii source → IsAscii (laid (map tidy (seen ps)) gs)
layout_ascii source ps gs e h = laid_ascii (map tidy (seen ps)) gs (seen_ascii ps (parts_ascii ps (subst (λ t. IsAscii t) (sym e) h)))
