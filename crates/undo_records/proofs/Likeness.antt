-- What the oldest changes tell of a cell is so in the first state.
use Rattle.std.proofs.Common.{◌≡◌, ◌≢◌, ◌⊎◌, ℕ, zero, suc, ◌<◌, true, false, eqb, List, [], ◌∷◌, length, get_or, slice_set, refl, ap, subst, sym, ◌∙◌, inl, inr, arith}
use Rattle.std.proofs.lemmas.Bool.Decides.{eqb_tells}
use Rattle.std.proofs.lemmas.List.{get_or-set_same, get_or-set_other, get_or_default, length-set}
use Rattle.terms.specs.Datum.{Datum, Just, End, Link, pack, items_of}
use Rattle.terms.specs.Shapes.{with_item}
use Rattle.terms.specs.Turns.{item_pack}
use Rattle.undo_records.specs.declared.change.Change.{Change}
use Rattle.undo_records.specs.declared.change.Change.TheVariants.{Cell, Item}
use Rattle.undo_records.specs.declared.first.Traced.{Traced}
use Rattle.undo_records.specs.Traced.{first_value, written_in}
use Rattle.undo_records.specs.Places.{before, earliest, whole_before, whole_earliest, part, part_before, part_earliest, IsLike, IsPart}

pub items_with_item : (place : ℕ) (new value : Datum) → items_of (with_item place new value) ≡ slice_set (items_of value) place new
items_with_item place new (Just s) = refl
items_with_item place new End = refl
items_with_item zero new (Link x xs) = refl
items_with_item (suc place) new (Link x xs) = ap (λ ys. x ∷ ys) (items_with_item place new xs)

like_itself : (value : Datum) → IsLike value value
like_itself value = record { count = refl; list = λ is. is; scalar = λ s is. refl }

like_with_item : (whole value : Datum) (place : ℕ) (new : Datum) → IsLike whole value → IsLike whole (with_item place new value)
like_with_item whole value place new like = record {
  count = ap length (items_with_item place new value) ∙ length-set (items_of value) place new ∙ like.count;
  list = λ is. ap (with_item place new) (like.list is) ∙ item_pack (items_of value) place new ∙ ap pack (sym (items_with_item place new value));
  scalar = λ s is.
      let value_is : value ≡ Just s = like.scalar s is ∙ is in
      ap (with_item place new) value_is ∙ sym is;
}

like_before : (cell : ℕ) (changes : List Change) (whole value : Datum) → IsLike whole value → IsLike (whole_before cell changes whole) (before cell changes value)
like_before cell [] whole value like = like
like_before cell (Cell at old ∷ changes) whole value like = go (eqb_tells at cell) (like_before cell changes whole value like) where
  go : ((eqb at cell ≡ true) × (at ≡ cell)) ⊎ ((eqb at cell ≡ false) × (at ≢ cell)) → IsLike (whole_before cell changes whole) (before cell changes value) → IsLike (whole_before cell (Cell at old ∷ changes) whole) (before cell (Cell at old ∷ changes) value)
  go (inl (is, same)) rest = rw is (like_itself old)
  go (inr (is, other)) rest = rw is rest
like_before cell (Item at place old ∷ changes) whole value like = go (eqb_tells at cell) (like_before cell changes whole value like) where
  go : ((eqb at cell ≡ true) × (at ≡ cell)) ⊎ ((eqb at cell ≡ false) × (at ≢ cell)) → IsLike (whole_before cell changes whole) (before cell changes value) → IsLike (whole_before cell (Item at place old ∷ changes) whole) (before cell (Item at place old ∷ changes) value)
  go (inl (is, same)) rest = rw is (like_with_item (whole_before cell changes whole) (before cell changes value) place old rest)
  go (inr (is, other)) rest = rw is rest

like_marks : (cell : ℕ) (marks : List (List Change)) (whole value : Datum) → IsLike whole value → IsLike (whole_earliest cell marks whole) (earliest cell marks value)
like_marks cell [] whole value like = like
like_marks cell (changes ∷ marks) whole value like = like_marks cell marks (whole_before cell changes whole) (before cell changes value) (like_before cell changes whole value like)

-- a cell in the first state is like what the oldest change of it as a whole replaced
pub like_first : (traced : Traced) (whole : Datum) → whole ≡ whole_earliest traced.cell (written_in traced) traced.current.now → IsLike whole (first_value traced)
like_first traced whole is =
    subst (λ (w : Datum). IsLike w (first_value traced)) (sym is) (like_marks traced.cell (written_in traced) traced.current.now traced.current.now (like_itself traced.current.now))

part_with_item : (index place : ℕ) (item old value : Datum) → (place ≢ index → IsPart index item value) → (place ≡ index → item ≡ old) → IsPart index item (with_item place old value)
part_with_item index place item old value others here within = go (eqb_tells place index) where
  xs : List Datum
  xs = items_of value

  inside : index < length xs
  inside = let e = ap length (items_with_item place old value) ∙ length-set xs place old in omega (arith, e, within)

  moved : part index (with_item place old value) ≡ get_or (slice_set xs place old) index value
  moved = get_or_default (items_of (with_item place old value)) index (with_item place old value) value within ∙ ap (λ ys. get_or ys index value) (items_with_item place old value)

  go : ((eqb place index ≡ true) × (place ≡ index)) ⊎ ((eqb place index ≡ false) × (place ≢ index)) → item ≡ part index (with_item place old value)
  go (inl (is, same)) = here same ∙ sym (moved ∙ ap (λ k. get_or (slice_set xs k old) index value) same ∙ get_or-set_same xs index old value inside)
  go (inr (is, other)) = others other inside ∙ sym (moved ∙ get_or-set_other xs place index old value (λ same. other (sym same)))

part_in_before : (cell index : ℕ) (changes : List Change) (item value : Datum) → IsPart index item value → IsPart index (part_before cell index changes item) (before cell changes value)
part_in_before cell index [] item value is_part = is_part
part_in_before cell index (Cell at old ∷ changes) item value is_part = go (eqb_tells at cell) (part_in_before cell index changes item value is_part) where
  go : ((eqb at cell ≡ true) × (at ≡ cell)) ⊎ ((eqb at cell ≡ false) × (at ≢ cell)) → IsPart index (part_before cell index changes item) (before cell changes value) → IsPart index (part_before cell index (Cell at old ∷ changes) item) (before cell (Cell at old ∷ changes) value)
  go (inl (is, same)) rest = rw is (λ within. refl)
  go (inr (is, other)) rest = rw is rest
part_in_before cell index (Item at place old ∷ changes) item value is_part = go (eqb_tells at cell) (eqb_tells place index) (part_in_before cell index changes item value is_part) where
  go : ((eqb at cell ≡ true) × (at ≡ cell)) ⊎ ((eqb at cell ≡ false) × (at ≢ cell)) → ((eqb place index ≡ true) × (place ≡ index)) ⊎ ((eqb place index ≡ false) × (place ≢ index)) → IsPart index (part_before cell index changes item) (before cell changes value) → IsPart index (part_before cell index (Item at place old ∷ changes) item) (before cell (Item at place old ∷ changes) value)
  go (inl (is, same)) (inl (here, at_index)) rest = rw (is, here) (part_with_item index place old old (before cell changes value) (λ other. absurd (other at_index)) (λ at_place. refl))
  go (inl (is, same)) (inr (here, other)) rest = rw (is, here) (part_with_item index place (part_before cell index changes item) old (before cell changes value) (λ elsewhere. rest) (λ at_place. absurd (other at_place)))
  go (inr (is, other)) place_tells rest = rw is rest

part_in_marks : (cell index : ℕ) (marks : List (List Change)) (item value : Datum) → IsPart index item value → IsPart index (part_earliest cell index marks item) (earliest cell marks value)
part_in_marks cell index [] item value is_part = is_part
part_in_marks cell index (changes ∷ marks) item value is_part =
    part_in_marks cell index marks (part_before cell index changes item) (before cell changes value) (part_in_before cell index changes item value is_part)

-- an item of a cell in the first state is what the oldest change of it replaced
pub is_part_first : (traced : Traced) (index : ℕ) (item : Datum) → item ≡ part_earliest traced.cell index (written_in traced) (part index traced.current.now) → IsPart index item (first_value traced)
is_part_first traced index item is within =
    is ∙ part_in_marks traced.cell index (written_in traced) (part index traced.current.now) traced.current.now (λ there. refl) within
