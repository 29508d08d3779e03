-- What stays marked where lines are joined and cut.
use Rattle.std.proofs.Common.{◌≡◌, ℕ, suc, zero, ◌-◌, ◌<◌, Bool, true, false, List, [], ◌∷◌, ◌++◌, length, slice_set, slice_index_or, refl, sym, ap, ◌∙◌, arith}
use lib.ListN.{length-map}
use mathlib.Core.List.{map-append}
use Rattle.raw_events.specs.declared.slot.Slot.{Slot}
use Rattle.raw_events.specs.Marks.{IsMarked, items_of}
use Rattle.raw_events.specs.Around.{is_nonempty}

pub has_some : {X : Type 0} (xs : List X) → 0 < length xs → is_nonempty xs ≡ true
has_some [] p = absurd (omega arith)
has_some (x ∷ xs) p = refl

pub some_has : {X : Type 0} (xs : List X) → is_nonempty xs ≡ true → 0 < length xs
some_has [] e = absurd (cc e)
some_has (x ∷ xs) e = omega arith

pub none_has : {X : Type 0} (xs : List X) → is_nonempty xs ≡ false → xs ≡ []
none_has [] e = refl
none_has (x ∷ xs) e = absurd (cc e)

has_set : {X : Type 0} (x : X) (xs ys : List X) (i : ℕ) (w : X) → is_nonempty (slice_set (x ∷ xs) i w ++ ys) ≡ true
has_set x xs ys zero w = refl
has_set x xs ys (suc i) w = refl

has_join : {X : Type 0} (xs ys : List X) → 0 < length ys → is_nonempty (xs ++ ys) ≡ true
has_join [] ys p = has_some ys p
has_join (x ∷ xs) ys p = refl

module _ {X : Type 0} where
  pub marks_join : (xs ys : List (Slot X)) (i : ℕ) (w : Slot X) → suc i ≡ length xs → IsMarked xs → IsMarked ys → is_nonempty ys ≡ true → w.more ≡ true → IsMarked (slice_set xs i w ++ ys)
  marks_join [] ys i w e m n h t = absurd (omega arith)
  marks_join (x ∷ []) ys zero w e m n h t = (t ∙ sym h, n)
  marks_join (x ∷ []) ys (suc i) w e m n h t = absurd (omega arith)
  marks_join (x ∷ y ∷ xs) ys zero w e m n h t = absurd (omega arith)
  marks_join (x ∷ y ∷ xs) ys (suc i) w e m n h t = (m.0 ∙ sym (has_set y xs ys i w), marks_join (y ∷ xs) ys i w (omega arith) m.1 n h t)

  pub join_has : (xs ys : List (Slot X)) (i : ℕ) (w : Slot X) → 0 < length ys → is_nonempty (slice_set xs i w ++ ys) ≡ true
  join_has xs ys i w p = has_join (slice_set xs i w) ys p

  pub items_set : (xs : List (Slot X)) (i : ℕ) (b w : Slot X) → b ≡ slice_index_or xs i b → w.item ≡ b.item → items_of (slice_set xs i w) ≡ items_of xs
  items_set [] i b w e p = refl
  items_set (x ∷ xs) zero b w e p = ap (λ z. z ∷ items_of xs) (p ∙ ap (λ (s : Slot X). s.item) e)
  items_set (x ∷ xs) (suc i) b w e p = ap (λ zs. x.item ∷ zs) (items_set xs i b w e p)

  pub items_join : (xs ys : List (Slot X)) (i : ℕ) (b w : Slot X) → b ≡ slice_index_or xs i b → w.item ≡ b.item → items_of (slice_set xs i w ++ ys) ≡ items_of xs ++ items_of ys
  items_join xs ys i b w e p = map-append (λ (s : Slot X). s.item) (slice_set xs i w) ys ∙ ap (λ zs. zs ++ items_of ys) (items_set xs i b w e p)

  has_kept : (x : Slot X) (xs : List (Slot X)) (i : ℕ) (w : Slot X) → is_nonempty (slice_set (x ∷ xs) i w) ≡ true
  has_kept x xs zero w = refl
  has_kept x xs (suc i) w = refl

  -- the last slot is cut off
  pub marks_cut : (xs : List (Slot X)) (ls : List (Slot X)) (i : ℕ) (w : Slot X) → IsMarked (xs ++ ls) → length ls ≡ 1 → suc i ≡ length xs → w.more ≡ false → IsMarked (slice_set xs i w)
  marks_cut [] ls i w m one e t = absurd (omega arith)
  marks_cut (x ∷ []) ls zero w m one e t = (t, tt)
  marks_cut (x ∷ []) ls (suc i) w m one e t = absurd (omega arith)
  marks_cut (x ∷ y ∷ xs) ls zero w m one e t = absurd (omega arith)
  marks_cut (x ∷ y ∷ xs) ls (suc i) w m one e t = (m.0 ∙ sym (has_kept y xs i w), marks_cut (y ∷ xs) ls i w m.1 one (omega arith) t)

  pub kept_has : (xs : List (Slot X)) (i : ℕ) (w : Slot X) → is_nonempty (slice_set xs i w) ≡ is_nonempty xs
  kept_has [] i w = refl
  kept_has (x ∷ xs) i w = has_kept x xs i w

  pub marks_after : (xs ys : List (Slot X)) → IsMarked (xs ++ ys) → IsMarked ys
  marks_after [] ys m = m
  marks_after (x ∷ xs) ys m = marks_after xs ys m.1

  -- the first slot says whether the others are more than the last
  pub front_more : (xs ls : List (Slot X)) (f : Slot X) → IsMarked (xs ++ ls) → length ls ≡ 1 → f ≡ slice_index_or (xs ++ ls) 0 f → f.more ≡ is_nonempty xs
  front_more [] [] f m one e = absurd (omega arith)
  front_more [] (l ∷ []) f m one e = ap (λ (s : Slot X). s.more) e ∙ m.0
  front_more [] (l ∷ k ∷ ls) f m one e = absurd (omega arith)
  front_more (x ∷ xs) ls f m one e = ap (λ (s : Slot X). s.more) e ∙ m.0 ∙ has_join xs ls (omega arith)

  -- a line with no mark of an item shows the empty list
  pub shows_none : (ss : List (Slot X)) (b : Bool) (zs : List X) → b ≡ is_nonempty ss → b ≡ false → items_of ss ≡ zs → zs ≡ []
  shows_none ss b zs e f v = sym v ∙ ap items_of (none_has ss (sym e ∙ f))

  pub items_append : (xs ys : List (Slot X)) → items_of (xs ++ ys) ≡ items_of xs ++ items_of ys
  items_append xs ys = map-append (λ (s : Slot X). s.item) xs ys

pub append_none : {X : Type 0} (xs : List X) → xs ++ [] ≡ xs
append_none [] = refl
append_none (x ∷ xs) = ap (λ zs. x ∷ zs) (append_none xs)

pub no_items : {X : Type 0} (ss : List (Slot X)) → items_of ss ≡ [] → ss ≡ []
no_items [] e = refl
no_items (s ∷ ss) e = absurd (cc e)

-- an item is written over in its place
module _ {X : Type 0} where
  pub marks_set : (xs : List (Slot X)) (i : ℕ) (b w : Slot X) → IsMarked xs → b ≡ slice_index_or xs i b → w.more ≡ b.more → IsMarked (slice_set xs i w)
  marks_set [] i b w m e p = m
  marks_set (x ∷ xs) zero b w m e p = (p ∙ ap (λ (s : Slot X). s.more) e ∙ m.0, m.1)
  marks_set (x ∷ xs) (suc i) b w m e p = (m.0 ∙ sym (kept_has xs i w), marks_set xs i b w m.1 e p)

  items_written : (xs : List (Slot X)) (i : ℕ) (w : Slot X) → items_of (slice_set xs i w) ≡ slice_set (items_of xs) i w.item
  items_written [] i w = refl
  items_written (x ∷ xs) zero w = refl
  items_written (x ∷ xs) (suc i) w = ap (λ zs. x.item ∷ zs) (items_written xs i w)

  pub last_written : (xs : List (Slot X)) (ys : List X) (w : Slot X) → items_of xs ≡ ys → items_of (slice_set xs (length xs - 1) w) ≡ slice_set ys (length ys - 1) w.item
  last_written xs ys w e =
      items_written xs (length xs - 1) w ∙ ap (λ n. slice_set (items_of xs) (n - 1) w.item) (sym (length-map xs (λ (s : Slot X). s.item))) ∙ ap (λ zs. slice_set zs (length zs - 1) w.item) e

  item_at : (xs : List (Slot X)) (i : ℕ) (b : Slot X) → b ≡ slice_index_or xs i b → b.item ≡ slice_index_or (items_of xs) i b.item
  item_at [] i b e = refl
  item_at (x ∷ xs) zero b e = ap (λ (s : Slot X). s.item) e
  item_at (x ∷ xs) (suc i) b e = item_at xs i b e

  pub last_item : (xs : List (Slot X)) (ys : List X) (b : Slot X) → b ≡ slice_index_or xs (length xs - 1) b → items_of xs ≡ ys → b.item ≡ slice_index_or ys (length ys - 1) b.item
  last_item xs ys b e f =
      item_at xs (length xs - 1) b e ∙ ap (λ n. slice_index_or (items_of xs) (n - 1) b.item) (sym (length-map xs (λ (s : Slot X). s.item))) ∙ ap (λ zs. slice_index_or zs (length zs - 1) b.item) f
