-- The states below stay when a write is kept.
use Rattle.std.specs.Prelude.{◌≡◌, ℕ, zero, suc, ◌-◌, ◌<◌, List, [], ◌∷◌, length, map, take, get_or, slice_get, slice_set, None, Some, refl}
use Rattle.std.proofs.Common.{arith, ap, ◌∙◌, sym, subst}
use Rattle.terms.specs.Datum.{Datum, Just, End, Link, items_of}
use Rattle.terms.specs.Shapes.{with_item, set_item}
use Rattle.undo_records.specs.declared.change.Change.{Change}
use Rattle.undo_records.specs.States.{States}
use Rattle.undo_records.specs.Changes.{restored, unwound, states_below, IsNoted}

pub written : (change : Change) (marks new_marks : List (List Change)) (old new : List Datum) → IsNoted change marks new_marks → restored change new ≡ old → states_below new_marks new ≡ states_below marks old
written change marks new_marks old new noted back = noted new ∙ ap (states_below marks) back

pub slice_set_back : {A : Type 0} (xs : List A) (k : ℕ) (x old d : A) → k < length xs → old ≡ get_or xs k d → slice_set (slice_set xs k x) k old ≡ xs
slice_set_back [] k x old d h e = absurd (omega arith)
slice_set_back (y ∷ ys) zero x old d h e = ap (λ z. z ∷ ys) e
slice_set_back (y ∷ ys) (suc k) x old d h e = ap (λ zs. y ∷ zs) (slice_set_back ys k x old d (omega arith) e)

item_back : (value : Datum) (k : ℕ) (x old : Datum) → slice_get (items_of value) k ≡ Some old → with_item k old (with_item k x value) ≡ value
item_back (Just s) k x old h = refl
item_back End k x old h = refl
item_back (Link y ys) zero x old h = let same : y ≡ old = cc in ap (λ z. Link z ys) (sym same)
item_back (Link y ys) (suc k) x old h = ap (Link y) (item_back ys k x old h)

pub no_item : (value : Datum) (k : ℕ) (x : Datum) → slice_get (items_of value) k ≡ None → with_item k x value ≡ value
no_item (Just s) k x h = refl
no_item End k x h = refl
no_item (Link y ys) zero x h = cc
no_item (Link y ys) (suc k) x h = ap (Link y) (no_item ys k x h)

pub set_item_back : (state : List Datum) (cell k : ℕ) (x old d : Datum) → cell < length state → slice_get (items_of (get_or state cell d)) k ≡ Some old → set_item cell k old (set_item cell k x state) ≡ state
set_item_back [] cell k x old d h e = refl
set_item_back (y ∷ ys) zero k x old d h e = ap (λ z. z ∷ ys) (item_back y k x old e)
set_item_back (y ∷ ys) (suc cell) k x old d h e = ap (λ zs. y ∷ zs) (set_item_back ys cell k x old d (omega arith) e)

pub set_item_none : (state : List Datum) (cell k : ℕ) (x d : Datum) → cell < length state → slice_get (items_of (get_or state cell d)) k ≡ None → set_item cell k x state ≡ state
set_item_none [] cell k x d h e = refl
set_item_none (y ∷ ys) zero k x d h e = ap (λ z. z ∷ ys) (no_item y k x e)
set_item_none (y ∷ ys) (suc cell) k x d h e = ap (λ zs. y ∷ zs) (set_item_none ys cell k x d (omega arith) e)

pub length-states_below : (marks : List (List Change)) (state : List Datum) → length (states_below marks state) ≡ length marks
length-states_below [] state = refl
length-states_below (changes ∷ marks) state = let rest = length-states_below marks (unwound changes state) in omega (arith, rest)

pub take-states_below : (n : ℕ) (marks : List (List Change)) (state : List Datum) → states_below (take n marks) state ≡ take n (states_below marks state)
take-states_below zero [] state = refl
take-states_below zero (changes ∷ marks) state = refl
take-states_below (suc n) [] state = refl
take-states_below (suc n) (changes ∷ marks) state = ap (λ below. unwound changes state ∷ below) (take-states_below n marks (unwound changes state))

pub take-map : {A B : Type 0} (f : A → B) (n : ℕ) (xs : List A) → map f (take n xs) ≡ take n (map f xs)
take-map f zero [] = refl
take-map f zero (x ∷ xs) = refl
take-map f (suc n) [] = refl
take-map f (suc n) (x ∷ xs) = ap (λ ys. f x ∷ ys) (take-map f n xs)

pub length-map : {A B : Type 0} (f : A → B) (xs : List A) → length (map f xs) ≡ length xs
length-map f [] = refl
length-map f (x ∷ xs) = let rest = length-map f xs in omega (arith, rest)

-- forgetting the first states drops the last marks
pub forgotten : {A : Type 0} (f : A → List Change) (marks rest : List A) (state : List Datum) (left count : ℕ) → rest ≡ take left marks → left ≡ length (states_below (map f marks) state) - count → states_below (map f rest) state ≡ take (length (states_below (map f marks) state) - count) (states_below (map f marks) state)
forgotten f marks rest state left count is how =
    ap (λ ms. states_below (map f ms) state) is
    ∙ ap (λ ms. states_below ms state) (take-map f left marks)
    ∙ take-states_below left (map f marks) state
    ∙ ap (λ n. take n (states_below (map f marks) state)) how

pub marks_counted : {A : Type 0} (f : A → List Change) (marks : List A) (state : List Datum) → length (states_below (map f marks) state) ≡ length marks
marks_counted f marks state = length-states_below (map f marks) state ∙ length-map f marks

-- the states of a current one and what was written since each mark
abbrev pub seen : List Datum → List (List Change) → States
seen current marks = record { current = current; below = states_below marks current }

-- a write that is kept changes the current state alone
pub kept_write : (write : List Datum → List Datum) (change : Change) (old new : List Datum) (marks new_marks : List (List Change)) (states : States) → seen old marks ≡ states → new ≡ write old → IsNoted change marks new_marks → restored change (write old) ≡ old → seen new new_marks ≡ record { current = write states.current; below = states.below }
kept_write write change old new marks new_marks states view current noted back =
    (λ i. seen (current i) new_marks)
    ∙ (λ i. record { current = write old; below = written change marks new_marks old (write old) noted back i })
    ∙ ap (λ s. record { current = write s.current; below = s.below }) view

-- a write that is put back changes nothing
pub undone_write : (old new : List Datum) (marks new_marks : List (List Change)) (states : States) → seen old marks ≡ states → new ≡ old → new_marks ≡ marks → seen new new_marks ≡ states
undone_write old new marks new_marks states view current same = (λ i. seen (current i) (same i)) ∙ view

-- a write that changes nothing
pub no_write : (write : List Datum → List Datum) (old new : List Datum) (marks : List (List Change)) (states : States) → seen old marks ≡ states → new ≡ write old → write old ≡ old → seen new marks ≡ record { current = write states.current; below = states.below }
no_write write old new marks states view made nothing =
    let same : write states.current ≡ states.current = subst (λ (s : States). write s.current ≡ s.current) view nothing in
    (λ i. seen ((made ∙ nothing) i) marks) ∙ view ∙ (λ i. record { current = sym same i; below = states.below })
