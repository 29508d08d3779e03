-- The first part of some bytes, found from their front.
use Rattle.std.proofs.Common.{◌≡◌, ◌<◌, ◌≤◌, ◌+◌, ◌-◌, ℕ, List, [], ◌∷◌, ◌++◌, length, length-append, map, min, take, Bool, true, false, refl, sym, ◌∙◌, ap, subst, arith, append-nil}
use Rattle.std.specs.Prelude.{◌||◌, ◌==◌, not, slice_index}
use Rattle.std.specs.List.{list_all, prefix_len}
use Rattle.std.proofs.lemmas.Bool.{and_parts, not-true, both_ways}
use Rattle.std.proofs.lemmas.List.{take_at}
use Rattle.ioa_tokens.specs.Bytes.{Text, is_blank, is_in_line, stops}
use Rattle.ioa_tokens.specs.Tokens.{Tok, Placed}
use Rattle.ioa_tokens.specs.Cutting.{Piece, Blank, Comment, Mark, Part, IsPiece, IsCut, ends, text_of, keep, placed_from}
use Rattle.ioa_tokens.proofs.Fronts.{prefix_exact}
use Rattle.ioa_layout.specs.declared.item.Item.{Item}
use Rattle.ioa_layout.specs.Ink.{piece_of, see, tidy, tidy_comment, is_in_token}
use Rattle.ioa_layout.specs.Fronts.{EndsLines, IsFront, IsRest, most_len, token_len}
use Rattle.ioa_layout.specs.Lines.{flags_of, is_below, is_feed, note_alone}
use Rattle.ioa_layout.proofs.Tokens.{token_is_in, token_is_some}

first_in : (text rest : Text) → 0 < length text → list_all is_in_token text ≡ true → is_in_token (slice_index (text ++ rest) 0) ≡ true
first_in [] rest some h = absurd (omega arith)
first_in (b ∷ bs) rest some h = (and_parts (is_in_token b) (list_all is_in_token bs) h).0

token_first : (t : Tok) (text rest bytes : Text) → IsPiece (Mark t) text → text ++ rest ≡ bytes → is_in_token (slice_index bytes 0) ≡ true
token_first t text rest bytes h e = subst (λ x. is_in_token (slice_index x 0) ≡ true) e (first_in text rest (token_is_some t text h) (token_is_in t text h))

no_blank_in : (b : ℕ) → is_in_token b ≡ true → is_blank b ≡ false
no_blank_in b h = not-true (is_blank b) (and_parts (not (is_blank b)) (not (b == 37)) h).0

no_comment_in : (b : ℕ) → is_in_token b ≡ true → (b == 37) ≡ false
no_comment_in b h = not-true (b == 37) (and_parts (not (is_blank b)) (not (b == 37)) h).1

comment_first : (text rest bytes : Text) → IsPiece Comment text → text ++ rest ≡ bytes → slice_index bytes 0 ≡ 37
comment_first text rest bytes h e = ap (λ x. slice_index x 0) (sym e ∙ ap (λ x. x ++ rest) h.1)

blank_first : (text rest bytes : Text) → IsPiece Blank text → text ++ rest ≡ bytes → is_blank (slice_index bytes 0) ≡ true
blank_first text rest bytes h e = ap (λ x. is_blank (slice_index x 0)) (sym e ∙ ap (λ x. x ++ rest) h.1) ∙ h.2

not_blank_there : (b : ℕ) → b ≡ 37 → is_blank b ≡ true → ⊥
not_blank_there b e h = absurd (let k : is_blank 37 ≡ true = ap is_blank (sym e) ∙ h in cc)

-- ---- a blank

blank_at : (q : Piece) (text bytes : Text) (at : ℕ) (left : List Placed) (ps : List Part) → is_blank (slice_index bytes 0) ≡ true → IsPiece q text → text ++ text_of ps ≡ bytes
    → keep q at (placed_from (at + length text) ps) ≡ left → IsFront at (record { piece = q; text = text }) ps [] 1 left
blank_at Blank text bytes at left ps h is e k = record { len_is = sym (ap length is.1); shown_is = refl; left_is = sym k }
blank_at Comment text bytes at left ps h is e k = absurd (not_blank_there (slice_index bytes 0) (comment_first text (text_of ps) bytes is e) h)
blank_at (Mark t) text bytes at left ps h is e k = absurd (both_ways (is_blank (slice_index bytes 0)) (no_blank_in (slice_index bytes 0) (token_first t text (text_of ps) bytes is e)) h)

pub blank_leads : (bytes : Text) (at : ℕ) (left : List Placed) (p : Part) (ps : List Part) → is_blank (slice_index bytes 0) ≡ true → IsRest bytes at left (p ∷ ps)
    → IsFront at p ps [] 1 left
blank_leads bytes at left p ps h rest = blank_at p.piece p.text bytes at left ps h rest.cut.0 rest.whole rest.kept

-- ---- a comment

line_is : (text rest bytes : Text) → IsPiece Comment text → ends Comment (rest ++ []) ≡ true → text ++ rest ≡ bytes → prefix_len is_in_line bytes ≡ length text
line_is text rest bytes is ending e =
    ap (λ x. prefix_len is_in_line x) (sym e)
    ∙ prefix_exact is_in_line text rest (subst (λ x. list_all is_in_line x ≡ true) (sym is.1) is.2) (subst (λ x. stops is_in_line x ≡ true) (append-nil rest) ending)

comment_at : (q : Piece) (text bytes : Text) (at : ℕ) (left : List Placed) (ps : List Part) → slice_index bytes 0 ≡ 37 → IsPiece q text → ends q (text_of ps ++ []) ≡ true
    → text ++ text_of ps ≡ bytes → keep q at (placed_from (at + length text) ps) ≡ left
    → IsFront at (record { piece = q; text = text }) ps (tidy_comment (take (prefix_len is_in_line bytes) bytes) ∷ []) (prefix_len is_in_line bytes) left
comment_at Blank text bytes at left ps h is ending e k = absurd (not_blank_there (slice_index bytes 0) h (blank_first text (text_of ps) bytes is e))
comment_at Comment text bytes at left ps h is ending e k =
    let len : prefix_len is_in_line bytes ≡ length text = line_is text (text_of ps) bytes is ending e in
    let taken : take (prefix_len is_in_line bytes) bytes ≡ text = ap (λ x. take (prefix_len is_in_line bytes) x) (sym e) ∙ take_at text (text_of ps) (prefix_len is_in_line bytes) (sym len) in
    record { len_is = len; shown_is = ap (λ x. tidy_comment x ∷ []) taken; left_is = sym k }
comment_at (Mark t) text bytes at left ps h is ending e k =
    absurd (both_ways (slice_index bytes 0 == 37) (no_comment_in (slice_index bytes 0) (token_first t text (text_of ps) bytes is e)) (ap (λ b. b == 37) h))

pub comment_leads : (bytes : Text) (at : ℕ) (left : List Placed) (p : Part) (ps : List Part) → slice_index bytes 0 ≡ 37 → IsRest bytes at left (p ∷ ps)
    → IsFront at p ps (tidy_comment (take (prefix_len is_in_line bytes) bytes) ∷ []) (prefix_len is_in_line bytes) left
comment_leads bytes at left p ps h rest = comment_at p.piece p.text bytes at left ps h rest.cut.0 rest.cut.1 rest.whole rest.kept

-- ---- a token

prefix_least : (test : ℕ → Bool) (text rest : Text) → list_all test text ≡ true → length text ≤ prefix_len test (text ++ rest)
prefix_least test [] rest h = omega arith
prefix_least test (b ∷ bs) rest h =
    let parts = and_parts (test b) (list_all test bs) h in
    rw parts.0 (omega (arith, prefix_least test bs rest parts.1))

-- the places of tokens are from the first on
abbrev AreFrom : ℕ → List Placed → Type 0
AreFrom at [] = Unit {0}
AreFrom at (p ∷ ps) = at ≤ p.at

keep_from : (q : Piece) (at here : ℕ) (ts : List Placed) → at ≤ here → AreFrom at ts → AreFrom at (keep q here ts)
keep_from Blank at here ts h k = k
keep_from Comment at here ts h k = k
keep_from (Mark t) at here ts h k = h

placed_are_from : (at here : ℕ) (ps : List Part) → at ≤ here → AreFrom at (placed_from here ps)
placed_are_from at here [] h = tt
placed_are_from at here (p ∷ ps) h = keep_from p.piece at here (placed_from (here + length p.text) ps) h (placed_are_from at (here + length p.text) ps (omega arith))

most_from : (at width len : ℕ) (ts : List Placed) → width ≤ len → AreFrom (at + width) ts → width ≤ most_len ts at len
most_from at width len [] h k = h
most_from at width len (t ∷ ts) h k = omega arith

both_least : (a b n : ℕ) → a ≡ n → n ≤ b → min a b ≡ n
both_least a b n e h = omega arith

other_least : (a b n : ℕ) → n ≤ a → b ≡ n → min a b ≡ n
other_least a b n h e = omega arith

-- a blank or a comment stops what a token may have
stops_at_blank : (text rest : Text) → IsPiece Blank text → stops is_in_token (text ++ rest) ≡ true
stops_at_blank text rest is = subst (λ x. stops is_in_token (x ++ rest) ≡ true) (sym is.1) (rw is.2 refl)

stops_at_comment : (text rest : Text) → IsPiece Comment text → stops is_in_token (text ++ rest) ≡ true
stops_at_comment text rest is = subst (λ x. stops is_in_token (x ++ rest) ≡ true) (sym is.1) refl

stopped : (text rest : Text) (at : ℕ) (others : List Placed) → list_all is_in_token text ≡ true → stops is_in_token rest ≡ true → AreFrom (at + length text) others
    → token_len (text ++ rest) others at ≡ length text
stopped text rest at others h e k =
    both_least (prefix_len is_in_token (text ++ rest)) (most_len others at (length (text ++ rest))) (length text) (prefix_exact is_in_token text rest h e)
    (most_from at (length text) (length (text ++ rest)) others (omega (arith, length-append text rest)) k)

next_len : (q : Piece) (text next later : Text) (at : ℕ) (others : List Placed) → list_all is_in_token text ≡ true → IsPiece q next → AreFrom (at + length text) (keep q (at + length text) others)
    → token_len (text ++ (next ++ later)) (keep q (at + length text) others) at ≡ length text
next_len Blank text next later at others h is k = stopped text (next ++ later) at others h (stops_at_blank next later is) k
next_len Comment text next later at others h is k = stopped text (next ++ later) at others h (stops_at_comment next later is) k
next_len (Mark t) text next later at others h is k =
    other_least (prefix_len is_in_token (text ++ (next ++ later))) (at + length text - at) (length text) (prefix_least is_in_token text (next ++ later) h) (omega arith)

len_is : (text : Text) (at : ℕ) (ps : List Part) → list_all is_in_token text ≡ true → IsCut ps [] → token_len (text ++ text_of ps) (placed_from (at + length text) ps) at ≡ length text
len_is text at [] h k = stopped text [] at [] h refl tt
len_is text at (q ∷ qs) h k =
    next_len q.piece text q.text (text_of qs) at (placed_from (at + length text + length q.text) qs) h k.0 (placed_are_from (at + length text) (at + length text) (q ∷ qs) (omega arith))

-- the token at the front, and those that follow
pub record IsToken (at : ℕ) (p : Part) (ps : List Part) (len : ℕ) (first : Placed) (others : List Placed) : Type 0 where
  pub len_is : len ≡ length p.text
  pub piece_is : p.piece ≡ Mark first.tok
  pub others_are : others ≡ placed_from (at + length p.text) ps

head_is : (x y : Placed) (xs ys : List Placed) → x ∷ xs ≡ y ∷ ys → x ≡ y
head_is x y xs ys e = cc

tail_is : (x y : Placed) (xs ys : List Placed) → x ∷ xs ≡ y ∷ ys → xs ≡ ys
tail_is x y xs ys e = cc

token_at : (q : Piece) (text bytes : Text) (at : ℕ) (first : Placed) (others : List Placed) (ps : List Part) → is_blank (slice_index bytes 0) ≡ false → (slice_index bytes 0 ≡ 37 → ⊥)
    → IsPiece q text → IsCut ps [] → text ++ text_of ps ≡ bytes → keep q at (placed_from (at + length text) ps) ≡ first ∷ others
    → IsToken at (record { piece = q; text = text }) ps (token_len bytes others at) first others
token_at Blank text bytes at first others ps h n is cut e k = absurd (both_ways (is_blank (slice_index bytes 0)) h (blank_first text (text_of ps) bytes is e))
token_at Comment text bytes at first others ps h n is cut e k = absurd (n (comment_first text (text_of ps) bytes is e))
token_at (Mark t) text bytes at first others ps h n is cut e k =
    let here : Placed = record { tok = t; at = at } in
    let rest : placed_from (at + length text) ps ≡ others = tail_is here first (placed_from (at + length text) ps) others k in
    let same : here ≡ first = head_is here first (placed_from (at + length text) ps) others k in
    record {
      len_is = subst (λ ts. token_len bytes ts at ≡ length text) rest (subst (λ x. token_len x (placed_from (at + length text) ps) at ≡ length text) e (len_is text at ps (token_is_in t text is) cut));
      piece_is = ap (λ p. Mark p.tok) same;
      others_are = sym rest;
    }

pub token_leads : (bytes : Text) (at : ℕ) (first : Placed) (others : List Placed) (p : Part) (ps : List Part) → is_blank (slice_index bytes 0) ≡ false → (slice_index bytes 0 ≡ 37 → ⊥)
    → IsRest bytes at (first ∷ others) (p ∷ ps) → IsToken at p ps (token_len bytes others at) first others
token_leads bytes at first others p ps h n rest = token_at p.piece p.text bytes at first others ps h n rest.cut.0 rest.cut.2 rest.whole rest.kept

token_text : (bytes : Text) (len : ℕ) (p : Part) (ps : List Part) → len ≡ length p.text → p.text ++ text_of ps ≡ bytes → take len bytes ≡ p.text
token_text bytes len p ps h e = ap (λ x. take len x) (sym e) ∙ take_at p.text (text_of ps) len (sym h)

mark_tidy : (q : Piece) (text : Text) (t : Tok) → q ≡ Mark t → map tidy (see q (record { piece = q; text = text }) []) ≡ record { piece = Mark t; text = text } ∷ []
mark_tidy q text t e = subst (λ x. map tidy (see x (record { piece = x; text = text }) []) ≡ record { piece = Mark t; text = text } ∷ []) (sym e) refl

pub token_shown : (bytes : Text) (at : ℕ) (first : Placed) (others : List Placed) (p : Part) (ps : List Part) → is_blank (slice_index bytes 0) ≡ false → (slice_index bytes 0 ≡ 37 → ⊥)
    → IsRest bytes at (first ∷ others) (p ∷ ps)
    → IsFront at p ps (record { piece = Mark first.tok; text = take (token_len bytes others at) bytes } ∷ []) (token_len bytes others at) others
token_shown bytes at first others p ps h n rest =
    let is = token_leads bytes at first others p ps h n rest in
    let text : take (token_len bytes others at) bytes ≡ p.text = token_text bytes (token_len bytes others at) p ps is.len_is rest.whole in
    record {
      len_is = is.len_is;
      shown_is = ap (λ x. record { piece = Mark first.tok; text = x } ∷ []) text ∙ sym (mark_tidy p.piece p.text first.tok is.piece_is);
      left_is = is.others_are;
    }

none_at : (q : Piece) (text bytes : Text) (at : ℕ) (ps : List Part) → is_blank (slice_index bytes 0) ≡ false → (slice_index bytes 0 ≡ 37 → ⊥) → IsPiece q text → text ++ text_of ps ≡ bytes
    → keep q at (placed_from (at + length text) ps) ≡ [] → ⊥
none_at Blank text bytes at ps h n is e k = both_ways (is_blank (slice_index bytes 0)) h (blank_first text (text_of ps) bytes is e)
none_at Comment text bytes at ps h n is e k = n (comment_first text (text_of ps) bytes is e)
none_at (Mark t) text bytes at ps h n is e k = cc

-- there is no token where none is left
pub no_token : (bytes : Text) (at : ℕ) (p : Part) (ps : List Part) → is_blank (slice_index bytes 0) ≡ false → (slice_index bytes 0 ≡ 37 → ⊥) → IsRest bytes at [] (p ∷ ps) → ⊥
no_token bytes at p ps h n rest = none_at p.piece p.text bytes at ps h n rest.cut.0 rest.whole rest.kept

-- ---- lines

feed_first : (b : ℕ) (text rest bytes : Text) → text ≡ b ∷ [] → text ++ rest ≡ bytes → is_feed text ≡ (slice_index bytes 0 == 10)
feed_first b text rest bytes h e = ap is_feed h ∙ ap (λ x. slice_index x 0 == 10) (ap (λ x. x ++ rest) (sym h) ∙ e)

blank_lines : (q : Piece) (text bytes : Text) (ps : List Part) (ended after : Bool) → is_blank (slice_index bytes 0) ≡ true → IsPiece q text → text ++ text_of ps ≡ bytes
    → after ≡ (ended || slice_index bytes 0 == 10) → EndsLines (record { piece = q; text = text }) ended [] after
blank_lines Blank text bytes ps ended after h is e k = record { flags_are = refl; after_is = k ∙ ap (λ x. ended || x) (sym (feed_first is.0 text (text_of ps) bytes is.1 e)) }
blank_lines Comment text bytes ps ended after h is e k = absurd (not_blank_there (slice_index bytes 0) (comment_first text (text_of ps) bytes is e) h)
blank_lines (Mark t) text bytes ps ended after h is e k = absurd (both_ways (is_blank (slice_index bytes 0)) (no_blank_in (slice_index bytes 0) (token_first t text (text_of ps) bytes is e)) h)

pub blank_ends : (bytes : Text) (at : ℕ) (left : List Placed) (p : Part) (ps : List Part) (ended after : Bool) → is_blank (slice_index bytes 0) ≡ true → IsRest bytes at left (p ∷ ps)
    → after ≡ (ended || slice_index bytes 0 == 10) → EndsLines p ended [] after
blank_ends bytes at left p ps ended after h rest k = blank_lines p.piece p.text bytes ps ended after h rest.cut.0 rest.whole k

comment_lines : (q : Piece) (text bytes : Text) (ps : List Part) (ended : Bool) → slice_index bytes 0 ≡ 37 → IsPiece q text → text ++ text_of ps ≡ bytes
    → EndsLines (record { piece = q; text = text }) ended (ended ∷ []) true
comment_lines Blank text bytes ps ended h is e = absurd (not_blank_there (slice_index bytes 0) h (blank_first text (text_of ps) bytes is e))
comment_lines Comment text bytes ps ended h is e = record { flags_are = refl; after_is = refl }
comment_lines (Mark t) text bytes ps ended h is e =
    absurd (both_ways (slice_index bytes 0 == 37) (no_comment_in (slice_index bytes 0) (token_first t text (text_of ps) bytes is e)) (ap (λ b. b == 37) h))

pub comment_ends : (bytes : Text) (at : ℕ) (left : List Placed) (p : Part) (ps : List Part) (ended : Bool) → slice_index bytes 0 ≡ 37 → IsRest bytes at left (p ∷ ps)
    → EndsLines p ended (ended ∷ []) true
comment_ends bytes at left p ps ended h rest = comment_lines p.piece p.text bytes ps ended h rest.cut.0 rest.whole

token_lines : (q : Piece) (text bytes : Text) (ps : List Part) (ended : Bool) → is_blank (slice_index bytes 0) ≡ false → (slice_index bytes 0 ≡ 37 → ⊥) → IsPiece q text → text ++ text_of ps ≡ bytes
    → EndsLines (record { piece = q; text = text }) ended [] false
token_lines Blank text bytes ps ended h n is e = absurd (both_ways (is_blank (slice_index bytes 0)) h (blank_first text (text_of ps) bytes is e))
token_lines Comment text bytes ps ended h n is e = absurd (n (comment_first text (text_of ps) bytes is e))
token_lines (Mark t) text bytes ps ended h n is e = record { flags_are = refl; after_is = refl }

pub token_ends : (bytes : Text) (at : ℕ) (left : List Placed) (p : Part) (ps : List Part) (ended : Bool) → is_blank (slice_index bytes 0) ≡ false → (slice_index bytes 0 ≡ 37 → ⊥)
    → IsRest bytes at left (p ∷ ps) → EndsLines p ended [] false
token_ends bytes at left p ps ended h n rest = token_lines p.piece p.text bytes ps ended h n rest.cut.0 rest.whole

-- the flag of the item of a comment
pub comment_flags : (item : Item) (ended : Bool) (p : Part) → is_below item.below ≡ ended → piece_of item.ink ≡ Comment → EndsLines p ended (ended ∷ []) true → EndsLines p ended (flags_of (item ∷ [])) true
comment_flags item ended p h q e =
    let flags : note_alone (piece_of item.ink) (is_below item.below) [] ≡ ended ∷ [] = ap (λ x. note_alone x (is_below item.below) []) q ∙ ap (λ b. b ∷ []) h in
    record { flags_are = flags ∙ e.flags_are; after_is = e.after_is }
