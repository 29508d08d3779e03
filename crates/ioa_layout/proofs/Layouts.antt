-- What is laid out is a layout, and is read alike.
use Rattle.std.proofs.Common.{◌≡◌, ◌+◌, ℕ, List, [], ◌∷◌, length, map, true, refl, sym, ◌∙◌, ap, subst}
use Rattle.std.specs.Str.{IsAscii}
use Rattle.ioa_tokens.specs.Bytes.{Text}
use Rattle.ioa_tokens.specs.Tokens.{Tok, Placed}
use Rattle.ioa_tokens.specs.Cutting.{Piece, Blank, Comment, Mark, Part, IsTokens, keep, placed_from}
use Rattle.ioa_tokens.proofs.Cuts.{tokens_once}
use Rattle.ioa_layout.specs.declared.gap.Gap.{Gap}
use Rattle.ioa_layout.specs.Ink.{parts_of, see, seen, Shows, tidy}
use Rattle.ioa_layout.specs.declared.item.Item.{Item}
use Rattle.ioa_layout.specs.Gaps.{AreAllGaps, laid}
use Rattle.ioa_layout.specs.Lines.{alone, flags_of, StandAll}
use Rattle.ioa_layout.specs.Fronts.{AreOf}
use Rattle.ioa_layout.specs.Laid.{IsLayout, ReadsAlike}
use Rattle.ioa_layout.proofs.Ascii.{layout_ascii}
use Rattle.ioa_layout.proofs.Alone.{alone_laid, below_in}
use Rattle.ioa_layout.proofs.Cut.{AreInk, cut_laid, parts_laid, seen_laid, seen_tidy, text_laid}

pub layout_is : (source text : Text) (items : List Item) (gaps : List Gap) → AreOf source (parts_of items) (flags_of items) → AreAllGaps (parts_of items) gaps → StandAll items gaps
    → text ≡ laid (parts_of items) gaps → IsLayout source text
layout_is source text items gaps h k s e =
    let ink = map tidy h.ink in
    let same : parts_of items ≡ ink = h.shown_are in
    let set : AreAllGaps ink gaps = subst (λ ps. AreAllGaps ps gaps) same k in
    let whole : text ≡ laid ink gaps = e ∙ ap (λ ps. laid ps gaps) same in
    let visible : AreInk ink = subst (λ ps. AreInk (map tidy ps)) h.shows.shown (seen_tidy h.shows.parts [] h.shows.cut) in
    let below = below_in h.shows.parts true true items (λ x. x) (same ∙ ap (λ ps. map tidy ps) (sym h.shows.shown)) h.flags_are in
    record {
      ink = h.ink;
      gaps = gaps;
      source_shows = h.shows;
      text_shows = record { parts = parts_laid ink gaps; whole = text_laid ink gaps ∙ sym whole; cut = cut_laid ink gaps visible set; shown = seen_laid ink gaps visible set };
      set = set;
      whole = whole;
      stay = ap (λ ps. alone true (parts_laid ps gaps)) (sym same) ∙ alone_laid items gaps k s below ∙ h.flags_are;
    }

-- the tokens of parts

abbrev mark_of : Piece → List Tok → List Tok
mark_of Blank ts = ts
mark_of Comment ts = ts
mark_of (Mark t) ts = t ∷ ts

abbrev marks : List Part → List Tok
marks [] = []
marks (p ∷ ps) = mark_of p.piece (marks ps)

keep_marks : (q : Piece) (at : ℕ) (ts : List Placed) → map (λ p. p.tok) (keep q at ts) ≡ mark_of q (map (λ p. p.tok) ts)
keep_marks Blank at ts = refl
keep_marks Comment at ts = refl
keep_marks (Mark t) at ts = refl

see_marks : (q : Piece) (text : Text) (ps : List Part) → marks (see q (record { piece = q; text = text }) ps) ≡ mark_of q (marks ps)
see_marks Blank text ps = refl
see_marks Comment text ps = refl
see_marks (Mark t) text ps = refl

placed_marks : (at : ℕ) (ps : List Part) → map (λ p. p.tok) (placed_from at ps) ≡ marks (seen ps)
placed_marks at [] = refl
placed_marks at (p ∷ ps) =
    keep_marks p.piece at (placed_from (at + length p.text) ps) ∙ ap (λ ts. mark_of p.piece ts) (placed_marks (at + length p.text) ps) ∙ sym (see_marks p.piece p.text (seen ps))

tidy_marks : (ps : List Part) → marks (map tidy ps) ≡ marks ps
tidy_marks [] = refl
tidy_marks (p ∷ ps) = ap (λ ts. mark_of p.piece ts) (tidy_marks ps)

abbrev shown_tokens : (text : Text) (ink : List Part) → Shows text ink → (us : List Placed) × IsTokens text us
shown_tokens text ink h = (placed_from 0 h.parts, record { parts = h.parts; whole = h.whole; cut = h.cut; kept = refl })

shown_marks : (text : Text) (ink : List Part) (ts : List Placed) → Shows text ink → IsTokens text ts → map (λ p. p.tok) ts ≡ marks ink
shown_marks text ink ts h k =
    ap (λ us. map (λ p. p.tok) us) (tokens_once text ts (placed_from 0 h.parts) k (shown_tokens text ink h).1) ∙ placed_marks 0 h.parts ∙ ap marks h.shown

pub reads_alike : (source text : Text) → IsAscii source → IsLayout source text → ReadsAlike source text
reads_alike source text ascii h =
    let shown : text ≡ laid (map tidy (seen h.source_shows.parts)) h.gaps = h.whole ∙ ap (λ ps. laid (map tidy ps) h.gaps) (sym h.source_shows.shown) in
    record {
      ascii = subst (λ t. IsAscii t) (sym shown) (layout_ascii source h.source_shows.parts h.gaps h.source_shows.whole ascii);
      read = shown_tokens text (map tidy h.ink) h.text_shows;
      same = λ ts us k m. shown_marks text (map tidy h.ink) us h.text_shows m ∙ tidy_marks h.ink ∙ sym (shown_marks source h.ink ts h.source_shows k);
    }
