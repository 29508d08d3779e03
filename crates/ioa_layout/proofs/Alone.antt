-- Comments in lines of their own stay there.
use Rattle.std.proofs.Common.{◌≡◌, ◌-◌, ℕ, List, [], ◌∷◌, ◌++◌, length, map, Bool, true, false, refl, sym, ◌∙◌, ap, subst}
use Rattle.std.specs.Prelude.{◌||◌, ◌==◌}
use Rattle.ioa_tokens.specs.Bytes.{Text}
use Rattle.ioa_tokens.specs.Tokens.{Tok}
use Rattle.ioa_tokens.specs.Cutting.{Piece, Blank, Comment, Mark, Part}
use Rattle.ioa_layout.specs.declared.gap.Gap.{Gap}
use Rattle.ioa_layout.specs.declared.gap.Gap.TheVariants as gap
use Rattle.ioa_layout.specs.declared.item.Ink.{Ink}
use Rattle.ioa_layout.specs.declared.item.Ink.TheVariants as ink
use Rattle.ioa_layout.specs.declared.item.Item.{Item}
use Rattle.ioa_layout.specs.Ink.{see, seen, tidy, part_of, parts_of, piece_of}
use Rattle.ioa_layout.specs.Gaps.{AreGaps, AreAllGaps, gap_text, is_comment, is_line, room_after}
use Rattle.ioa_layout.specs.Lines.{alone, ended_after, flags_of, is_below, is_feed, note_alone, Stand, StandAll}
use Rattle.ioa_layout.proofs.Cut.{blank_parts, parts_after, parts_laid}

-- ---- flags of lists

note_more : (q : Piece) (b : Bool) (fs gs : List Bool) → note_alone q b fs ++ gs ≡ note_alone q b (fs ++ gs)
note_more Blank b fs gs = refl
note_more Comment b fs gs = refl
note_more (Mark t) b fs gs = refl

pub flags_more : (xs ys : List Item) → flags_of (xs ++ ys) ≡ flags_of xs ++ flags_of ys
flags_more [] ys = refl
flags_more (x ∷ xs) ys = ap (λ fs. note_alone (piece_of x.ink) (is_below x.below) fs) (flags_more xs ys) ∙ sym (note_more (piece_of x.ink) (is_below x.below) (flags_of xs) (flags_of ys))

-- ---- lines that end in a gap

abbrev has_feed : Text → Bool
has_feed [] = false
has_feed (b ∷ bs) = b == 10 || has_feed bs

either_more : (a b c : Bool) → ((a || b) || c) ≡ (a || (b || c))
either_more true b c = refl
either_more false b c = refl

either_none : (a : Bool) → (a || false) ≡ a
either_none true = refl
either_none false = refl

alone_blank : (ended : Bool) (t : Text) (ps : List Part) → alone ended (blank_parts t ++ ps) ≡ alone (ended || has_feed t) ps
alone_blank ended [] ps = ap (λ x. alone x ps) (sym (either_none ended))
alone_blank ended (b ∷ bs) ps = alone_blank (ended || b == 10) bs ps ∙ ap (λ x. alone x ps) (either_more ended (b == 10) (has_feed bs))

feed_in : (g : Gap) → has_feed (gap_text g) ≡ is_line g
feed_in gap.Nothing = refl
feed_in gap.Space = refl
feed_in gap.Margin = refl
feed_in (gap.Line line) = refl

-- ---- comments that follow comments

-- a comment that follows a comment, or the begin of the text, is below
abbrev pub AreBelow : Bool → List Item → Type 0
AreBelow after [] = Unit {0}
AreBelow after (i ∷ is) = (is_comment (piece_of i.ink) ≡ true → after ≡ true → is_below i.below ≡ true) × AreBelow (is_comment (piece_of i.ink)) is

flag_is : (q : Piece) (text : Text) (p a ended : Bool) (line : Bool) → (is_comment q ≡ true → p ≡ true → a ≡ true) → (is_comment q ≡ true → p ≡ false → line ≡ a) → (rest : List Part) (fs : List Bool)
    → (q ≡ Blank → ⊥) → alone (is_comment q) rest ≡ fs → note_alone q (p || line) (alone (ended_after q text ended) rest) ≡ note_alone q a fs
flag_is Blank text p a ended line h k rest fs n e = absurd (n refl)
flag_is Comment text true a ended line h k rest fs n e = λ v. (sym (h refl refl) v) ∷ (e v)
flag_is Comment text false a ended line h k rest fs n e = λ v. (k refl refl v) ∷ (e v)
flag_is (Mark t) text p a ended line h k rest fs n e = e

no_blank : (k : Ink) → piece_of k ≡ Blank → ⊥
no_blank (ink.Token t) e = absurd (cc)
no_blank ink.Comment e = absurd (cc)

alone_after : (room : ℕ) (p : Part) (qs : List Item) (gs : List Gap) → AreGaps room p (parts_of qs) gs → Stand p.piece qs gs → AreBelow (is_comment p.piece) qs
    → alone (is_comment p.piece) (parts_after (parts_of qs) gs) ≡ flags_of qs
alone_after room p [] gs k s b = refl
alone_after room p (q ∷ qs) [] k s b = absurd k
alone_after room p (q ∷ qs) (g ∷ gs) k s b =
    let rest = parts_after (parts_of qs) gs in
    let ended = is_comment p.piece || is_line g in
    alone_blank (is_comment p.piece) (gap_text g) (part_of q ∷ rest)
    ∙ ap (λ x. alone (is_comment p.piece || x) (part_of q ∷ rest)) (feed_in g)
    ∙ flag_is (piece_of q.ink) q.text.now (is_comment p.piece) (is_below q.below) ended (is_line g) b.0 s.0 rest (flags_of qs) (no_blank q.ink)
    (alone_after (room_after g room - length q.text.now) (part_of q) qs gs k.1 s.1 b.1)

alone_first : (q : Piece) (text : Text) (a : Bool) → (is_comment q ≡ true → true ≡ true → a ≡ true) → (rest : List Part) (fs : List Bool) → (q ≡ Blank → ⊥)
    → alone (is_comment q) rest ≡ fs → note_alone q true (alone (ended_after q text true) rest) ≡ note_alone q a fs
alone_first Blank text a h rest fs n e = absurd (n refl)
alone_first Comment text a h rest fs n e = λ v. (sym (h refl refl) v) ∷ (e v)
alone_first (Mark t) text a h rest fs n e = e

pub alone_laid : (items : List Item) (gs : List Gap) → AreAllGaps (parts_of items) gs → StandAll items gs → AreBelow true items → alone true (parts_laid (parts_of items) gs) ≡ flags_of items
alone_laid [] gs k s b = refl
alone_laid (i ∷ is) gs k s b =
    alone_first (piece_of i.ink) i.text.now (is_below i.below) b.0 (parts_after (parts_of is) gs) (flags_of is) (no_blank i.ink)
    (alone_after (100 - length i.text.now) (part_of i) is gs k s b.1)

-- ---- in a source, what follows a comment is below it

head_is : {A : Type 0} (x y : A) (xs ys : List A) → x ∷ xs ≡ y ∷ ys → x ≡ y
head_is x y xs ys e = cc

tail_is : {A : Type 0} (x y : A) (xs ys : List A) → x ∷ xs ≡ y ∷ ys → xs ≡ ys
tail_is x y xs ys e = cc

no_items : (p : Part) (ps : List Part) {X : Type 0} → [] ≡ p ∷ ps → X
no_items p ps e = absurd (cc)

either_left : (a b : Bool) → a ≡ true → (a || b) ≡ true
either_left a b e = rw e refl

-- the same of the parts that follow
abbrev Below : List Part → Type 0
Below ps = (ended after : Bool) (items : List Item) → (after ≡ true → ended ≡ true) → parts_of items ≡ map tidy (seen ps) → flags_of items ≡ alone ended ps → AreBelow after items

comment_below : (i : Item) (is : List Item) (ended after : Bool) (ps : List Part) → Below ps → (after ≡ true → ended ≡ true) → piece_of i.ink ≡ Comment → parts_of is ≡ map tidy (seen ps)
    → flags_of (i ∷ is) ≡ ended ∷ alone true ps → AreBelow after (i ∷ is)
comment_below i is ended after ps later h q e f =
    let flags : is_below i.below ∷ flags_of is ≡ ended ∷ alone true ps = subst (λ x. note_alone x (is_below i.below) (flags_of is) ≡ ended ∷ alone true ps) q f in (
      (λ _ k. head_is (is_below i.below) ended (flags_of is) (alone true ps) flags ∙ h k),
      later true (is_comment (piece_of i.ink)) is (λ _. refl) e (tail_is (is_below i.below) ended (flags_of is) (alone true ps) flags),
    )

token_below : (i : Item) (is : List Item) (t : Tok) (after : Bool) (ps : List Part) → Below ps → piece_of i.ink ≡ Mark t → parts_of is ≡ map tidy (seen ps)
    → flags_of (i ∷ is) ≡ alone false ps → AreBelow after (i ∷ is)
token_below i is t after ps later q e f =
    let flags : flags_of is ≡ alone false ps = subst (λ x. note_alone x (is_below i.below) (flags_of is) ≡ alone false ps) q f in
    let plain : is_comment (piece_of i.ink) ≡ false = ap is_comment q in (
      (λ k _. absurd (let no : true ≡ false = sym k ∙ plain in cc)),
      later false (is_comment (piece_of i.ink)) is (λ k. absurd (let no : true ≡ false = sym k ∙ plain in cc)) e flags,
    )

below_at : (q : Piece) (text : Text) (ended after : Bool) (ps : List Part) (items : List Item) → Below ps → (after ≡ true → ended ≡ true)
    → parts_of items ≡ map tidy (see q (record { piece = q; text = text }) (seen ps)) → flags_of items ≡ note_alone q ended (alone (ended_after q text ended) ps) → AreBelow after items
below_at Blank text ended after ps items later h e f = later (ended || is_feed text) after items (λ k. either_left ended (is_feed text) (h k)) e f
below_at Comment text ended after ps [] later h e f = tt
below_at Comment text ended after ps (i ∷ is) later h e f =
    let first = tidy (record { piece = Comment; text = text }) in
    comment_below i is ended after ps later h (ap (λ p. p.piece) (head_is (part_of i) first (parts_of is) (map tidy (seen ps)) e)) (tail_is (part_of i) first (parts_of is) (map tidy (seen ps)) e) f
below_at (Mark t) text ended after ps [] later h e f = tt
below_at (Mark t) text ended after ps (i ∷ is) later h e f =
    let first = tidy (record { piece = Mark t; text = text }) in
    token_below i is t after ps later (ap (λ p. p.piece) (head_is (part_of i) first (parts_of is) (map tidy (seen ps)) e)) (tail_is (part_of i) first (parts_of is) (map tidy (seen ps)) e) f

pub below_in : (ps : List Part) → Below ps
below_in [] ended after [] h e f = tt
below_in [] ended after (i ∷ is) h e f = no_items (part_of i) (parts_of is) (sym e)
below_in (p ∷ ps) ended after items h e f = below_at p.piece p.text ended after ps items (below_in ps) h e f
