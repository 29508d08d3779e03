-- Cutting a source piece by piece.
use Rattle.std.proofs.Common.{suc, zero, ◌≡◌, ◌≤◌, ◌<◌, ◌+◌, ℕ, List, [], ◌∷◌, ◌++◌, length, take, drop, Some, None, true, refl, sym, ◌∙◌, ap, subst, arith, ◌⊎◌, inl, inr, append_assoc, append-nil, length-append, length-drop}
use Rattle.std.proofs.lemmas.List.{take_at, drop_at, take-append-drop, drop-drop, drop_all, length-take-le}
use Rattle.std.proofs.lemmas.Bool.{cases_lt}
use Rattle.ioa_tokens.specs.Bytes.{Text}
use Rattle.ioa_tokens.specs.Tokens.{Placed}
use Rattle.ioa_tokens.specs.Cutting.{Piece, Blank, Comment, Mark, IsPiece, ends, Part, text_of, IsCut, keep, placed_from, IsTokens, IsBad, IsBadAt}
use Rattle.ioa_tokens.specs.Finding.{Front, front, found}
use Rattle.ioa_tokens.proofs.Fronts.{piece_found, front_sound, found_piece, found_len}

-- the first bytes are cut into parts with these tokens
pub record IsCutTo (source : Text) (at : ℕ) (tokens : List Placed) : Type 0 where
  pub parts : List Part
  pub whole : text_of parts ++ drop at source ≡ source
  pub place : length (text_of parts) ≡ at
  pub cut : IsCut parts (drop at source)
  pub kept : placed_from 0 parts ≡ tokens

pub start : (source : Text) → IsCutTo source 0 []
start source = record { parts = []; whole = refl; place = refl; cut = tt; kept = refl }

-- ---- one more part at the end

text_more : (ps : List Part) (p : Part) → text_of (ps ++ p ∷ []) ≡ text_of ps ++ p.text
text_more [] p = append-nil p.text
text_more (q ∷ ps) p = ap (λ t. q.text ++ t) (text_more ps p) ∙ sym (append_assoc q.text (text_of ps) p.text)

cut_more : (ps : List Part) (p : Part) (rest : Text) → IsCut ps (p.text ++ rest) → IsPiece p.piece p.text → ends p.piece rest ≡ true → IsCut (ps ++ p ∷ []) rest
cut_more [] p rest h is e = (is, e, tt)
cut_more (q ∷ ps) p rest h is e = (h.0, subst (λ t. ends q.piece t ≡ true) (sym (append_assoc (text_of ps) p.text rest) ∙ ap (λ t. t ++ rest) (sym (text_more ps p))) h.1, cut_more ps p rest h.2 is e)

keep_append : (p : Piece) (at : ℕ) (ts us : List Placed) → keep p at (ts ++ us) ≡ keep p at ts ++ us
keep_append Blank at ts us = refl
keep_append Comment at ts us = refl
keep_append (Mark t) at ts us = refl

placed_more : (at : ℕ) (ps : List Part) (p : Part) → placed_from at (ps ++ p ∷ []) ≡ placed_from at ps ++ keep p.piece (at + length (text_of ps)) []
placed_more at [] p = ap (λ n. keep p.piece n []) (omega arith)
placed_more at (q ∷ ps) p =
    ap (λ ts. keep q.piece at ts) (placed_more (at + length q.text) ps p)
    ∙ keep_append q.piece at (placed_from (at + length q.text) ps) (keep p.piece (at + length q.text + length (text_of ps)) [])
    ∙ ap (λ n. keep q.piece at (placed_from (at + length q.text) ps) ++ keep p.piece n []) (omega (arith, length-append q.text (text_of ps)))

pub step : (source : Text) (at : ℕ) (tokens : List Placed) (p : Piece) (n : ℕ) → at < length source → IsCutTo source at tokens → front (drop at source) ≡ found p n
    → IsCutTo source (at + n) (tokens ++ keep p at [])
step source at tokens p n small h e =
    let is = front_sound (drop at source) p n (omega (arith, length-drop at source)) e in
    let part : Part = record { piece = p; text = take n (drop at source) } in
    let len : length (take n (drop at source)) ≡ n = length-take-le n (drop at source) is.fits in
    let both : take n (drop at source) ++ drop (at + n) source ≡ drop at source =
    ap (λ t. take n (drop at source) ++ t) (sym (drop-drop n at source)) ∙ take-append-drop n (drop at source) in
    record {
      parts = h.parts ++ part ∷ [];
      whole = ap (λ t. t ++ drop (at + n) source) (text_more h.parts part)
          ∙ append_assoc (text_of h.parts) (take n (drop at source)) (drop (at + n) source)
          ∙ ap (λ t. text_of h.parts ++ t) both ∙ h.whole;
      place = ap length (text_more h.parts part) ∙ (omega (arith, length-append (text_of h.parts) (take n (drop at source)), len, h.place));
      cut = cut_more h.parts part (drop (at + n) source) (subst (λ t. IsCut h.parts t) (sym both) h.cut) is.piece
          (subst (λ t. ends p t ≡ true) (drop-drop n at source) is.ending);
      kept = placed_more 0 h.parts part
          ∙ ap (λ ts. ts ++ keep p (0 + length (text_of h.parts)) []) h.kept
          ∙ ap (λ k. tokens ++ keep p k []) (omega (arith, h.place));
    }

pub all_cut : (source : Text) (at : ℕ) (tokens : List Placed) → length source ≤ at → IsCutTo source at tokens → IsTokens source tokens
all_cut source at tokens full h =
    let nothing : drop at source ≡ [] = drop_all at source full in
    record {
      parts = h.parts;
      whole = sym (append-nil (text_of h.parts)) ∙ ap (λ t. text_of h.parts ++ t) (sym nothing) ∙ h.whole;
      cut = subst (λ t. IsCut h.parts t) nothing h.cut;
      kept = h.kept;
    }

no_front : (p : Piece) (n : ℕ) → None ≡ found p n → ⊥
no_front p n e = cc

pub none_is_bad : (rest : Text) → 0 < length rest → front rest ≡ None → IsBad rest
none_is_bad rest some e = (
  (λ (empty : rest ≡ []). absurd (omega (arith, ap length empty))),
  (λ p text after whole is ending. absurd (no_front p (length text) (sym e ∙ ap front (sym whole) ∙ piece_found p text after is ending))),
)

pub stuck : (source : Text) (at : ℕ) (tokens : List Placed) → at < length source → IsCutTo source at tokens → front (drop at source) ≡ None → IsBadAt source at
stuck source at tokens small h e = record {
  parts = h.parts;
  rest = drop at source;
  whole = h.whole;
  cut = h.cut;
  place = h.place;
  bad = none_is_bad (drop at source) (omega (arith, length-drop at source)) e;
}

-- ---- a source is cut in one way

first_found : (p : Part) (ps : List Part) (rest : Text) → IsCut (p ∷ ps) rest → front (text_of (p ∷ ps) ++ rest) ≡ found p.piece (length p.text)
first_found p ps rest h = ap front (append_assoc p.text (text_of ps) rest) ∙ piece_found p.piece p.text (text_of ps ++ rest) h.0 h.1

same_part : (p q : Part) → p.piece ≡ q.piece → p.text ≡ q.text → p ≡ q
same_part p q e f = λ v. record { piece = e v; text = f v }

same_text : (a b x y : Text) → length a ≡ length b → a ++ x ≡ b ++ y → a ≡ b
same_text a b x y len e = sym (take_at a x (length a) refl) ∙ ap (λ t. take (length a) t) e ∙ take_at b y (length a) (sym len)

same_after : (a b x y : Text) → length a ≡ length b → a ++ x ≡ b ++ y → x ≡ y
same_after a b x y len e = sym (drop_at a x (length a) refl) ∙ ap (λ t. drop (length a) t) e ∙ drop_at b y (length a) (sym len)

record IsSame (ps qs : List Part) (r s : Text) : Type 0 where
  parts : ps ≡ qs
  rest : r ≡ s

same_more : (p q : Part) (ps qs : List Part) (r s : Text) → p ≡ q → IsSame ps qs r s → IsSame (p ∷ ps) (q ∷ qs) r s
same_more p q ps qs r s e h = record { parts = λ v. (e v) ∷ (h.parts v); rest = h.rest }

-- two cuts of the same bytes that go on as far as they can are the same
same_cut : (ps qs : List Part) (r s : Text) → IsCut ps r → IsCut qs s → front r ≡ None → front s ≡ None → text_of ps ++ r ≡ text_of qs ++ s → IsSame ps qs r s
same_cut [] [] r s h k a b e = record { parts = refl; rest = e }
same_cut [] (q ∷ qs) r s h k a b e = absurd (no_front q.piece (length q.text) (sym a ∙ ap front e ∙ first_found q qs s k))
same_cut (p ∷ ps) [] r s h k a b e = absurd (no_front p.piece (length p.text) (sym b ∙ ap front (sym e) ∙ first_found p ps r h))
same_cut (p ∷ ps) (q ∷ qs) r s h k a b e =
    let fronts : found p.piece (length p.text) ≡ found q.piece (length q.text) = sym (first_found p ps r h) ∙ ap front e ∙ first_found q qs s k in
    let len : length p.text ≡ length q.text = found_len p.piece q.piece (length p.text) (length q.text) fronts in
    let joined : p.text ++ (text_of ps ++ r) ≡ q.text ++ (text_of qs ++ s) = sym (append_assoc p.text (text_of ps) r) ∙ e ∙ append_assoc q.text (text_of qs) s in
    same_more p q ps qs r s
    (same_part p q (found_piece p.piece q.piece (length p.text) (length q.text) fronts) (same_text p.text q.text (text_of ps ++ r) (text_of qs ++ s) len joined))
    (same_cut ps qs r s h.2 k.2 a b (same_after p.text q.text (text_of ps ++ r) (text_of qs ++ s) len joined))

nothing_begins : front [] ≡ None
unfolding front
nothing_begins = refl

front_cases : (o : Front) → (o ≡ None) ⊎ ((p : Piece) × (n : ℕ) × (o ≡ found p n))
front_cases None = inl refl
front_cases (Some f) = inr (f.0, f.1, refl)

bad_is_none : (rest : Text) → IsBad rest → front rest ≡ None
bad_is_none [] bad = nothing_begins
bad_is_none (b ∷ bs) bad = elim (front_cases (front (b ∷ bs))) [
  | inl none ↦ none
  | inr is ↦ (let sound = front_sound (b ∷ bs) is.0 is.1 (omega arith) is.2 in
      absurd (bad.1 is.0 (take is.1 (b ∷ bs)) (drop is.1 (b ∷ bs)) (take-append-drop is.1 (b ∷ bs)) sound.piece sound.ending))
]

pub tokens_once : (source : Text) (ts us : List Placed) → IsTokens source ts → IsTokens source us → ts ≡ us
tokens_once source ts us h k =
    let same = same_cut h.parts k.parts [] [] h.cut k.cut nothing_begins nothing_begins (append-nil (text_of h.parts) ∙ h.whole ∙ sym k.whole ∙ sym (append-nil (text_of k.parts))) in
    sym h.kept ∙ ap (λ ps. placed_from 0 ps) same.parts ∙ k.kept

pub tokens_or_bad : (source : Text) (ts : List Placed) (at : ℕ) → IsTokens source ts → IsBadAt source at → ⊥
tokens_or_bad source ts at h k =
    let same = same_cut h.parts k.parts [] k.rest h.cut k.cut nothing_begins (bad_is_none k.rest k.bad) (append-nil (text_of h.parts) ∙ h.whole ∙ sym k.whole) in
    k.bad.0 (sym same.rest)

pub bad_once : (source : Text) (at other : ℕ) → IsBadAt source at → IsBadAt source other → at ≡ other
bad_once source at other h k =
    let same = same_cut h.parts k.parts h.rest k.rest h.cut k.cut (bad_is_none h.rest h.bad) (bad_is_none k.rest k.bad) (h.whole ∙ sym k.whole) in
    sym h.place ∙ ap (λ ps. length (text_of ps)) same.parts ∙ k.place

-- ---- a source is cut to its end, or up to a bad place

cut_on : (fuel : ℕ) (source : Text) (at : ℕ) (tokens : List Placed) → length source ≤ at + fuel → IsCutTo source at tokens
    → ((ts : List Placed) × IsTokens source ts) ⊎ ((place : ℕ) × IsBadAt source place)
cut_on zero source at tokens h cut = inl (tokens, all_cut source at tokens (omega arith) cut)
cut_on (suc fuel) source at tokens h cut = elim (cases_lt at (length source)) [
  | inr full ↦ inl (tokens, all_cut source at tokens full cut)
  | inl small ↦ elim (front_cases (front (drop at source))) [
    | inl none ↦ inr (at, stuck source at tokens small cut none)
    | inr is ↦ (let sound = front_sound (drop at source) is.0 is.1 (omega (arith, length-drop at source)) is.2 in
        let moves : 0 < is.1 = sound.some in
        cut_on fuel source (at + is.1) (tokens ++ keep is.0 at []) (omega arith) (step source at tokens is.0 is.1 small cut is.2))
  ]
]

pub tokens_or_place : (source : Text) → ((ts : List Placed) × IsTokens source ts) ⊎ ((place : ℕ) × IsBadAt source place)
tokens_or_place source = cut_on (length source) source 0 [] (omega arith) (start source)
