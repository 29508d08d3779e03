-- The tokens and comments of a source, part by part.
use Rattle.std.proofs.Common.{◌≡◌, ◌<◌, ◌≤◌, ◌+◌, ℕ, Bool, true, List, [], ◌∷◌, ◌++◌, length, length-append, length-drop, map, drop, refl, sym, ◌∙◌, ap, subst, arith, append_assoc, append-nil}
use Rattle.std.proofs.lemmas.List.{drop_at, drop-drop}
use Rattle.ioa_tokens.specs.Bytes.{Text}
use Rattle.ioa_tokens.specs.declared.token.Token.{Token}
use Rattle.ioa_tokens.specs.Tokens.{Placed, placed}
use Rattle.ioa_tokens.specs.Cutting.{Piece, Blank, Comment, Mark, Part, IsCut, IsTokens, text_of, placed_from}
use Rattle.ioa_layout.specs.Ink.{see, seen, tidy}
use Rattle.ioa_layout.specs.Fronts.{AreOf, EndsLines, IsFront, IsRest}
use Rattle.ioa_layout.specs.Lines.{alone, ended_after, note_alone}
use Rattle.ioa_layout.proofs.Cut.{piece_is_some}

-- what is shown so far, and what is left from a place on, are the source's
pub record IsLeft (source : Text) (at : ℕ) (left : List Placed) (shown : List Part) (flags : List Bool) (ended : Bool) : Type 0 where
  pub all : List Part
  pub rest : List Part
  pub whole : text_of all ≡ source
  pub cut : IsCut all []
  pub here : IsRest (drop at source) at left rest
  pub shown_is : shown ++ map tidy (seen rest) ≡ map tidy (seen all)
  pub flags_are : flags ++ alone ended rest ≡ alone true all

pub start : (source : Text) (tokens : List Placed) → IsTokens source tokens → IsLeft source 0 tokens [] [] true
start source tokens h = record {
  all = h.parts;
  rest = h.parts;
  whole = h.whole;
  cut = h.cut;
  here = record { whole = h.whole; cut = h.cut; kept = h.kept };
  shown_is = refl;
  flags_are = refl;
}

-- what stands at the front of the rest, and what follows it
pub record Leads (source : Text) (at : ℕ) (left : List Placed) (ended : Bool) (more : List Part) (len : ℕ) (after : List Placed) (flags : List Bool) (next : Bool) : Type 0 where
  pub front : (p : Part) (ps : List Part) → IsRest (drop at source) at left (p ∷ ps) → IsFront at p ps more len after
  pub lines : (p : Part) (ps : List Part) → IsRest (drop at source) at left (p ∷ ps) → EndsLines p ended flags next

pub record IsNext (source : Text) (at : ℕ) (shown more : List Part) (len : ℕ) (after : List Placed) (flags : List Bool) (next : Bool) : Type 0 where
  pub left : IsLeft source (at + len) after (shown ++ more) flags next
  pub fits : at + len ≤ length source
  pub moves : 0 < len

see_split : (q : Piece) (p : Part) (ps : List Part) → map tidy (see q p []) ++ map tidy ps ≡ map tidy (see q p ps)
see_split Blank p ps = refl
see_split Comment p ps = refl
see_split (Mark t) p ps = refl

note_split : (q : Piece) (ended : Bool) (fs : List Bool) → note_alone q ended [] ++ fs ≡ note_alone q ended fs
note_split Blank ended fs = refl
note_split Comment ended fs = refl
note_split (Mark t) ended fs = refl

flags_after : (p : Part) (ps : List Part) (ended next : Bool) (flags more : List Bool) (all : List Part) → EndsLines p ended more next → flags ++ alone ended (p ∷ ps) ≡ alone true all
    → (flags ++ more) ++ alone next ps ≡ alone true all
flags_after p ps ended next flags more all k e =
    append_assoc flags more (alone next ps)
    ∙ ap (λ fs. flags ++ (fs ++ alone next ps)) k.flags_are
    ∙ ap (λ b. flags ++ (note_alone p.piece ended [] ++ alone b ps)) k.after_is
    ∙ ap (λ fs. flags ++ fs) (note_split p.piece ended (alone (ended_after p.piece p.text ended) ps))
    ∙ e

rest_after : (source : Text) (at : ℕ) (left : List Placed) (p : Part) (ps more : List Part) (len : ℕ) (after : List Placed) → IsRest (drop at source) at left (p ∷ ps) → IsFront at p ps more len after
    → IsRest (drop (at + len) source) (at + len) after ps
rest_after source at left p ps more len after r k = record {
  whole = sym (drop_at p.text (text_of ps) len (sym k.len_is)) ∙ ap (λ t. drop len t) r.whole ∙ drop-drop len at source;
  cut = r.cut.2;
  kept = ap (λ n. placed_from (at + n) ps) k.len_is ∙ sym k.left_is;
}

step_from : (source : Text) (at : ℕ) (left : List Placed) (shown more : List Part) (len : ℕ) (after : List Placed) (flags some : List Bool) (ended next : Bool) (all ps : List Part) → at < length source
    → text_of all ≡ source → IsCut all [] → IsRest (drop at source) at left ps → shown ++ map tidy (seen ps) ≡ map tidy (seen all) → flags ++ alone ended ps ≡ alone true all
    → Leads source at left ended more len after some next → IsNext source at shown more len after (flags ++ some) next
step_from source at left shown more len after flags some ended next all [] small whole cut r e f leads = absurd (omega (arith, ap length r.whole, length-drop at source))
step_from source at left shown more len after flags some ended next all (p ∷ ps) small whole cut r e f leads =
    let k = leads.front p ps r in
    let moved = piece_is_some p.piece p.text r.cut.0 in
    let size = length-append p.text (text_of ps) in
    record {
      left = record {
        all = all;
        rest = ps;
        whole = whole;
        cut = cut;
        here = rest_after source at left p ps more len after r k;
        shown_is = append_assoc shown more (map tidy (seen ps)) ∙ ap (λ t. shown ++ (t ++ map tidy (seen ps))) k.shown_is ∙ ap (λ t. shown ++ t) (see_split p.piece p (seen ps)) ∙ e;
        flags_are = flags_after p ps ended next flags some all (leads.lines p ps r) f;
      };
      fits = omega (arith, ap length r.whole, length-drop at source, size, k.len_is);
      moves = omega (arith, moved, k.len_is);
    }

nothing_left : (source : Text) (at : ℕ) (left : List Placed) (shown : List Part) (flags : List Bool) (ended : Bool) (all ps : List Part) → length source ≤ at → text_of all ≡ source → IsCut all []
    → IsRest (drop at source) at left ps → shown ++ map tidy (seen ps) ≡ map tidy (seen all) → flags ++ alone ended ps ≡ alone true all → AreOf source shown flags
nothing_left source at left shown flags ended all [] full whole cut r e f = record {
  ink = seen all;
  shows = record { parts = all; whole = whole; cut = cut; shown = refl };
  shown_are = sym (append-nil shown) ∙ e;
  flags_are = sym (append-nil flags) ∙ f;
}
nothing_left source at left shown flags ended all (p ∷ ps) full whole cut r e f =
    absurd (omega (arith, ap length r.whole, length-drop at source, length-append p.text (text_of ps), piece_is_some p.piece p.text r.cut.0))

pub all_shown : (source : Text) (at : ℕ) (left : List Placed) (shown : List Part) (flags : List Bool) (ended : Bool) → length source ≤ at → IsLeft source at left shown flags ended → AreOf source shown flags
all_shown source at left shown flags ended full h = nothing_left source at left shown flags ended h.all h.rest full h.whole h.cut h.here h.shown_is h.flags_are

-- what follows in the loop over a source, of which the tokens up to a place are read
pub next_of : (source bytes : Text) (tokens left : List Token) (at read len count : ℕ) (shown more : List Part) (flags some : List Bool) (ended next : Bool) → at < length source → bytes ≡ drop at source
    → left ≡ drop read tokens → IsLeft source at (placed (drop read tokens)) shown flags ended
    → ((p : Part) (ps : List Part) → IsRest bytes at (placed left) (p ∷ ps) → IsFront at p ps more len (placed (drop count left)))
    → ((p : Part) (ps : List Part) → IsRest bytes at (placed left) (p ∷ ps) → EndsLines p ended some next)
    → IsNext source at shown more len (placed (drop (read + count) tokens)) (flags ++ some) next
next_of source bytes tokens left at read len count shown more flags some ended next small here there h f g =
    let back : (p : Part) (ps : List Part) → IsRest (drop at source) at (placed (drop read tokens)) (p ∷ ps) → IsRest bytes at (placed left) (p ∷ ps) =
    λ p ps r. subst (λ xs. IsRest bytes at (placed xs) (p ∷ ps)) (sym there) (subst (λ b. IsRest b at (placed (drop read tokens)) (p ∷ ps)) (sym here) r) in
    step_from source at (placed (drop read tokens)) shown more len (placed (drop (read + count) tokens)) flags some ended next h.all h.rest small h.whole h.cut h.here h.shown_is h.flags_are (record {
      front = λ p ps r. subst (λ xs. IsFront at p ps more len (placed xs)) (ap (λ xs. drop count xs) there ∙ drop-drop count read tokens) (f p ps (back p ps r));
      lines = λ p ps r. g p ps (back p ps r);
    })
