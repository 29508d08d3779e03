-- The first state, cell by cell.
use Rattle.std.proofs.Common.{◌≡◌, ◌≢◌, ◌⊎◌, ℕ, zero, suc, ◌<◌, true, false, eqb, List, [], ◌∷◌, length, get_or, refl, ap, sym, ◌∙◌, inl, inr, arith}
use Rattle.std.proofs.lemmas.Bool.Decides.{eqb_tells}
use Rattle.std.proofs.lemmas.List.{get_or-set_same, get_or-set_other, length-set}
use Rattle.terms.specs.Datum.{Datum}
use Rattle.terms.specs.Shapes.{with_item, set_item}
use Rattle.undo_records.specs.declared.change.Change.{Change}
use Rattle.undo_records.specs.declared.change.Change.TheVariants.{Cell, Item}
use Rattle.undo_records.specs.Changes.{restored, unwound, states_below}
use Rattle.undo_records.specs.First.{oldest, first_state}
use Rattle.undo_records.specs.States.{States}
use Rattle.undo_records.specs.Places.{before, earliest}

length-set_item : (at place : ℕ) (new : Datum) (state : List Datum) → length (set_item at place new state) ≡ length state
length-set_item at place new [] = refl
length-set_item zero place new (x ∷ xs) = refl
length-set_item (suc at) place new (x ∷ xs) = ap suc (length-set_item at place new xs)

length-restored : (change : Change) (state : List Datum) → length (restored change state) ≡ length state
length-restored (Cell at old) state = length-set state at old
length-restored (Item at place old) state = length-set_item at place old state

length-unwound : (changes : List Change) (state : List Datum) → length (unwound changes state) ≡ length state
length-unwound [] state = refl
length-unwound (change ∷ changes) state = length-restored change (unwound changes state) ∙ length-unwound changes state

-- the first state has as many cells as the current one
pub length-oldest : (marks : List (List Change)) (state : List Datum) → length (oldest state (states_below marks state)) ≡ length state
length-oldest [] state = refl
length-oldest (changes ∷ marks) state = length-oldest marks (unwound changes state) ∙ length-unwound changes state

get_or-set_item_same : (state : List Datum) (at place : ℕ) (new d : Datum) → at < length state → get_or (set_item at place new state) at d ≡ with_item place new (get_or state at d)
get_or-set_item_same [] at place new d within = absurd (omega arith)
get_or-set_item_same (x ∷ xs) zero place new d within = refl
get_or-set_item_same (x ∷ xs) (suc at) place new d within = get_or-set_item_same xs at place new d (omega arith)

get_or-set_item_other : (state : List Datum) (at cell place : ℕ) (new d : Datum) → at ≢ cell → get_or (set_item at place new state) cell d ≡ get_or state cell d
get_or-set_item_other [] at cell place new d other = refl
get_or-set_item_other (x ∷ xs) zero zero place new d other = absurd (other refl)
get_or-set_item_other (x ∷ xs) zero (suc cell) place new d other = refl
get_or-set_item_other (x ∷ xs) (suc at) zero place new d other = refl
get_or-set_item_other (x ∷ xs) (suc at) (suc cell) place new d other = get_or-set_item_other xs at cell place new d (λ same. other (ap suc same))

get_or-unwound : (cell : ℕ) (changes : List Change) (state : List Datum) (d : Datum) → cell < length state → get_or (unwound changes state) cell d ≡ before cell changes (get_or state cell d)
get_or-unwound cell [] state d within = refl
get_or-unwound cell (Cell at old ∷ changes) state d within = go (eqb_tells at cell) (get_or-unwound cell changes state d within) where
  go : ((eqb at cell ≡ true) × (at ≡ cell)) ⊎ ((eqb at cell ≡ false) × (at ≢ cell)) → get_or (unwound changes state) cell d ≡ before cell changes (get_or state cell d) → get_or (unwound (Cell at old ∷ changes) state) cell d ≡ before cell (Cell at old ∷ changes) (get_or state cell d)
  go (inl (is, same)) rest =
      let here : cell < length (unwound changes state) = omega (arith, within, length-unwound changes state) in
      rw is (ap (λ k. get_or (restored (Cell k old) (unwound changes state)) cell d) same ∙ get_or-set_same (unwound changes state) cell old d here)
  go (inr (is, other)) rest =
      rw is (get_or-set_other (unwound changes state) at cell old d (λ same. other (sym same)) ∙ rest)
get_or-unwound cell (Item at place old ∷ changes) state d within = go (eqb_tells at cell) (get_or-unwound cell changes state d within) where
  go : ((eqb at cell ≡ true) × (at ≡ cell)) ⊎ ((eqb at cell ≡ false) × (at ≢ cell)) → get_or (unwound changes state) cell d ≡ before cell changes (get_or state cell d) → get_or (unwound (Item at place old ∷ changes) state) cell d ≡ before cell (Item at place old ∷ changes) (get_or state cell d)
  go (inl (is, same)) rest =
      let here : cell < length (unwound changes state) = omega (arith, within, length-unwound changes state) in
      rw is (ap (λ k. get_or (set_item k place old (unwound changes state)) cell d) same ∙ get_or-set_item_same (unwound changes state) cell place old d here ∙ ap (with_item place old) rest)
  go (inr (is, other)) rest =
      rw is (get_or-set_item_other (unwound changes state) at cell place old d other ∙ rest)

-- what a cell has in the first state
pub get_or-oldest : (cell : ℕ) (marks : List (List Change)) (state : List Datum) (d : Datum) → cell < length state → get_or (oldest state (states_below marks state)) cell d ≡ earliest cell marks (get_or state cell d)
get_or-oldest cell [] state d within = refl
get_or-oldest cell (changes ∷ marks) state d within =
    get_or-oldest cell marks (unwound changes state) d (omega (arith, within, length-unwound changes state)) ∙ ap (earliest cell marks) (get_or-unwound cell changes state d within)

-- the first state of what a store keeps has as many cells as the current one
pub length-first : (current : List Datum) (marks : List (List Change)) (states : States) → oldest current (states_below marks current) ≡ first_state states → length (first_state states) ≡ length current
length-first current marks states first = ap length (sym first) ∙ length-oldest marks current

-- what it has in a cell
pub get_or-first : (current : List Datum) (marks : List (List Change)) (states : States) (cell : ℕ) (value d : Datum) → oldest current (states_below marks current) ≡ first_state states → value ≡ get_or current cell d → cell < length current → earliest cell marks value ≡ get_or (first_state states) cell d
get_or-first current marks states cell value d first value_is within =
    ap (earliest cell marks) value_is ∙ sym (get_or-oldest cell marks current d within) ∙ ap (λ state. get_or state cell d) first
