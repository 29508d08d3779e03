-- A change that an earlier one covers need not be put back.
use Rattle.std.proofs.Common.{true≢false, ◌≡◌, ◌≢◌, ◌⊎◌, ◌&&◌, ℕ, zero, suc, ◌<◌, Bool, true, false, eqb, List, [], ◌∷◌, length, get_or, slice_set, refl, ap, sym, ◌∙◌, inl, inr, arith}
use Rattle.std.proofs.lemmas.Bool.Decides.{eqb_tells}
use Rattle.terms.specs.Datum.{Datum, Just, End, Link}
use Rattle.terms.specs.Shapes.{with_item, set_item}
use Rattle.undo_records.specs.declared.change.Change.{Change}
use Rattle.undo_records.specs.declared.change.Change.TheVariants.{Cell, Item}
use Rattle.undo_records.specs.Changes.{restored, unwound, covers}

-- a list with a function of one item in its place
abbrev change_at : ℕ → (Datum → Datum) → List Datum → List Datum
change_at k f [] = []
change_at zero f (x ∷ xs) = f x ∷ xs
change_at (suc k) f (x ∷ xs) = x ∷ change_at k f xs

abbrev place_of : Change → ℕ
place_of (Cell at old) = at
place_of (Item at place old) = at

-- what a change makes of the value of its variable
abbrev made : Change → Datum → Datum
made (Cell at old) x = old
made (Item at place old) x = with_item place old x

-- the change of the same place, from another value
abbrev from : Change → Datum → Change
from (Cell at old) d = Cell at d
from (Item at place old) d = Item at place d

abbrev back : Change → List Datum → List Datum
back change state = change_at (place_of change) (made change) state

set_is : (k : ℕ) (d : Datum) (s : List Datum) → slice_set s k d ≡ change_at k (λ _. d) s
set_is k d [] = refl
set_is zero d (x ∷ xs) = refl
set_is (suc k) d (x ∷ xs) = ap (λ ys. x ∷ ys) (set_is k d xs)

item_is : (k place : ℕ) (d : Datum) (s : List Datum) → set_item k place d s ≡ change_at k (with_item place d) s
item_is k place d [] = refl
item_is zero place d (x ∷ xs) = refl
item_is (suc k) place d (x ∷ xs) = ap (λ ys. x ∷ ys) (item_is k place d xs)

restored_is : (change : Change) (s : List Datum) → restored change s ≡ back change s
restored_is (Cell at old) s = set_is at old s
restored_is (Item at place old) s = item_is at place old s

twice : (k : ℕ) (f g h : Datum → Datum) (s : List Datum) → ((x : Datum) → f (g x) ≡ h x) → change_at k f (change_at k g s) ≡ change_at k h s
twice k f g h [] same = refl
twice zero f g h (x ∷ xs) same = ap (λ y. y ∷ xs) (same x)
twice (suc k) f g h (x ∷ xs) same = ap (λ ys. x ∷ ys) (twice k f g h xs same)

apart : (j k : ℕ) (f g : Datum → Datum) (s : List Datum) → j ≢ k → change_at j f (change_at k g s) ≡ change_at k g (change_at j f s)
apart j k f g [] other = refl
apart zero zero f g (x ∷ xs) other = absurd (other refl)
apart zero (suc k) f g (x ∷ xs) other = refl
apart (suc j) zero f g (x ∷ xs) other = refl
apart (suc j) (suc k) f g (x ∷ xs) other = ap (λ ys. x ∷ ys) (apart j k f g xs (λ same. other (ap suc same)))

item_twice : (place : ℕ) (a b value : Datum) → with_item place a (with_item place b value) ≡ with_item place a value
item_twice place a b (Just s) = refl
item_twice place a b End = refl
item_twice zero a b (Link x xs) = refl
item_twice (suc place) a b (Link x xs) = ap (Link x) (item_twice place a b xs)

items_apart : (place other : ℕ) (a b value : Datum) → place ≢ other → with_item place a (with_item other b value) ≡ with_item other b (with_item place a value)
items_apart place other a b (Just s) differ = refl
items_apart place other a b End differ = refl
items_apart zero zero a b (Link x xs) differ = absurd (differ refl)
items_apart zero (suc other) a b (Link x xs) differ = refl
items_apart (suc place) zero a b (Link x xs) differ = refl
items_apart (suc place) (suc other) a b (Link x xs) differ = ap (Link x) (items_apart place other a b xs (λ same. differ (ap suc same)))

-- two states differ at most at the place of a change
abbrev Agree : Change → List Datum → List Datum → Type 0
Agree change a b = (d : Datum) → back (from change d) a ≡ back (from change d) b

put_agrees : (change : Change) (s : List Datum) → Agree change (back change s) s
put_agrees (Cell at old) s d = twice at (λ _. d) (λ _. old) (λ _. d) s (λ x. refl)
put_agrees (Item at place old) s d = twice at (with_item place d) (with_item place old) (with_item place d) s (item_twice place d old)

-- with the whole variable written too, they are the same
whole_same : (at place : ℕ) (old : Datum) (a b : List Datum) (d : Datum) → Agree (Item at place old) a b → change_at at (λ _. d) a ≡ change_at at (λ _. d) b
whole_same at place old a b d agree =
    sym (twice at (λ _. d) (with_item place old) (λ _. d) a (λ x. refl))
    ∙ ap (change_at at (λ _. d)) (agree old)
    ∙ twice at (λ _. d) (with_item place old) (λ _. d) b (λ x. refl)

-- both with one more change in the same variable
here_agrees : (change other : Change) (a b : List Datum) → place_of other ≡ place_of change → Agree change a b → Agree change (back other a) (back other b)
here_agrees (Cell at old) other a b same agree d =
    let k : place_of other ≡ at = same in
    ap (λ j. change_at at (λ _. d) (change_at j (made other) a)) k
    ∙ twice at (λ _. d) (made other) (λ _. d) a (λ x. refl)
    ∙ agree d
    ∙ sym (twice at (λ _. d) (made other) (λ _. d) b (λ x. refl))
    ∙ sym (ap (λ j. change_at at (λ _. d) (change_at j (made other) b)) k)
here_agrees (Item at place old) (Cell cell was) a b same agree d =
    ap (change_at at (with_item place d)) (
    ap (λ j. change_at j (λ _. was) a) same
    ∙ whole_same at place old a b was agree
    ∙ sym (ap (λ j. change_at j (λ _. was) b) same))
here_agrees (Item at place old) (Item cell index was) a b same agree d = go (eqb_tells place index) where
  at_cell : (s : List Datum) → back (Item at place d) (back (Item cell index was) s) ≡ change_at at (with_item place d) (change_at at (with_item index was) s)
  at_cell s = ap (λ j. change_at at (with_item place d) (change_at j (with_item index was) s)) same

  go : ((eqb place index ≡ true) × (place ≡ index)) ⊎ ((eqb place index ≡ false) × (place ≢ index)) → back (Item at place d) (back (Item cell index was) a) ≡ back (Item at place d) (back (Item cell index was) b)
  go (inl (is, one)) =
      let once : (s : List Datum) → change_at at (with_item place d) (change_at at (with_item index was) s) ≡ change_at at (with_item place d) s =
      λ s. twice at (with_item place d) (with_item index was) (with_item place d) s (λ x. ap (λ p. with_item place d (with_item p was x)) (sym one) ∙ item_twice place d was x) in
      at_cell a ∙ once a ∙ agree d ∙ sym (once b) ∙ sym (at_cell b)
  go (inr (is, differ)) =
      let turned : (s : List Datum) → change_at at (with_item place d) (change_at at (with_item index was) s) ≡ change_at at (with_item index was) (change_at at (with_item place d) s) =
      λ s. twice at (with_item place d) (with_item index was) (λ x. with_item index was (with_item place d x)) s (λ x. items_apart place index d was x differ)
      ∙ sym (twice at (with_item index was) (with_item place d) (λ x. with_item index was (with_item place d x)) s (λ x. refl)) in
      at_cell a ∙ turned a ∙ ap (change_at at (with_item index was)) (agree d) ∙ sym (turned b) ∙ sym (at_cell b)

place_from : (change : Change) (d : Datum) → place_of (from change d) ≡ place_of change
place_from (Cell at old) d = refl
place_from (Item at place old) d = refl

both_agree : (change other : Change) (a b : List Datum) → Agree change a b → Agree change (back other a) (back other b)
both_agree change other a b agree = go (eqb_tells (place_of other) (place_of change)) where
  go : ((eqb (place_of other) (place_of change) ≡ true) × (place_of other ≡ place_of change)) ⊎ ((eqb (place_of other) (place_of change) ≡ false) × (place_of other ≢ place_of change)) → Agree change (back other a) (back other b)
  go (inl (is, same)) = here_agrees change other a b same agree
  go (inr (is, differ)) = λ d.
      let elsewhere : place_of (from change d) ≢ place_of other = λ same. differ (sym same ∙ place_from change d) in
      apart (place_of (from change d)) (place_of other) (made (from change d)) (made other) a elsewhere
      ∙ ap (back other) (agree d)
      ∙ sym (apart (place_of (from change d)) (place_of other) (made (from change d)) (made other) b elsewhere)

all_agree : (change : Change) (changes : List Change) (a b : List Datum) → Agree change a b → Agree change (unwound changes a) (unwound changes b)
all_agree change [] a b agree d = agree d
all_agree change (other ∷ changes) a b agree d =
    ap (back (from change d)) (restored_is other (unwound changes a))
    ∙ both_agree change other (unwound changes a) (unwound changes b) (all_agree change changes a b agree) d
    ∙ sym (ap (back (from change d)) (restored_is other (unwound changes b)))

same_number : (j k : ℕ) → eqb j k ≡ true → j ≡ k
same_number j k is = go (eqb_tells j k) where
  go : ((eqb j k ≡ true) × (j ≡ k)) ⊎ ((eqb j k ≡ false) × (j ≢ k)) → j ≡ k
  go (inl (holds, same)) = same
  go (inr (fails, differ)) = absurd (true≢false (sym is ∙ fails))

both_true : (p q : Bool) → p && q ≡ true → (p ≡ true) × (q ≡ true)
both_true true true is = (refl, refl)
both_true true false is = absurd (true≢false (sym is))
both_true false q is = absurd (true≢false (sym is))

-- the covering change leaves nothing of where they differ
cover_same : (earlier later : Change) (a b : List Datum) → covers earlier later ≡ true → Agree later a b → back earlier a ≡ back earlier b
cover_same (Cell at old) (Cell cell new) a b is agree =
    let same : at ≡ cell = same_number at cell is in
    ap (λ k. change_at k (λ _. old) a) same ∙ agree old ∙ sym (ap (λ k. change_at k (λ _. old) b) same)
cover_same (Cell at old) (Item cell index new) a b is agree =
    let same : at ≡ cell = same_number at cell is in
    ap (λ k. change_at k (λ _. old) a) same ∙ whole_same cell index new a b old agree ∙ sym (ap (λ k. change_at k (λ _. old) b) same)
cover_same (Item at place old) (Cell cell new) a b is agree = absurd (true≢false (sym is))
cover_same (Item at place old) (Item cell index new) a b is agree =
    let both = both_true (eqb at cell) (eqb place index) is in
    let same : at ≡ cell = same_number at cell both.0 in
    let one : place ≡ index = same_number place index both.1 in
    (λ i. change_at (same i) (with_item (one i) old) a) ∙ agree old ∙ (λ i. change_at (sym same i) (with_item (sym one i) old) b)

-- where one of several changes covers a later one, it is the same whether that one is put back
pub covered_once : (changes : List Change) (k : ℕ) (earlier later : Change) → k < length changes → earlier ≡ get_or changes k earlier → covers earlier later ≡ true → (state : List Datum) → unwound changes (restored later state) ≡ unwound changes state
covered_once [] k earlier later within is covered state = absurd (omega arith)
covered_once (change ∷ changes) zero earlier later within is covered state =
    let start : Agree later (restored later state) state = λ d. ap (back (from later d)) (restored_is later state) ∙ put_agrees later state d in
    let rest : Agree later (unwound changes (restored later state)) (unwound changes state) = all_agree later changes (restored later state) state start in
    let first : covers change later ≡ true = ap (λ c. covers c later) (sym is) ∙ covered in
    restored_is change (unwound changes (restored later state))
    ∙ cover_same change later (unwound changes (restored later state)) (unwound changes state) first rest
    ∙ sym (restored_is change (unwound changes state))
covered_once (change ∷ changes) (suc k) earlier later within is covered state =
    ap (restored change) (covered_once changes k earlier later (omega (arith, within)) is covered state)
