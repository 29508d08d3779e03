-- First states are compared cell by cell.
use Rattle.std.proofs.Common.{◌≡◌, ◌≢◌, ℕ, ◌+◌, ◌<◌, ◌≤◌, Bool, true, false, not, List, ◌∷◌, length, get_or, drop, ap, sym, ◌∙◌, arith}
use Rattle.terms.specs.Datum.{Datum}
use Rattle.terms.specs.Same.{same}
use Rattle.undo_records.specs.declared.change.Change.{Change}
use Rattle.undo_records.specs.States.{States}
use Rattle.undo_records.specs.First.{oldest, first_state, same_state}
use Rattle.undo_records.specs.Places.{earliest}
use Rattle.undo_records.specs.Changes.{states_below}
use Rattle.undo_records.specs.Marks.{marks_of, IsPlain}
use Rattle.undo_records.specs.Written.{seen}
use Rattle.undo_records.proofs.Marked.{first_of}
use Rattle.undo_records.proofs.Earliest.{length-first, get_or-first}
use Rattle.undo_records.proofs.Sameness.{other_length, items_equal, items_differ, items_end}

-- the first states of two stores, which keep xs and ys as current states
pub record AreOf (xs ys : List Datum) (xs_marks ys_marks : List (List Change)) (a b : States) : Type 0 where
  pub a_is : oldest xs (states_below xs_marks xs) ≡ first_state a
  pub b_is : oldest ys (states_below ys_marks ys) ≡ first_state b

pub firsts : (is_marked other_marked : Bool) (newest other_newest : List Change) (older other_older : List (List Change)) (xs ys : List Datum) (a b : States) → IsPlain is_marked newest older → IsPlain other_marked other_newest other_older → seen xs (marks_of is_marked newest older) ≡ a → seen ys (marks_of other_marked other_newest other_older) ≡ b → AreOf xs ys (newest ∷ older) (other_newest ∷ other_older) a b
firsts is_marked other_marked newest other_newest older other_older xs ys a b plain other_plain a_is b_is = record {
  a_is = first_of is_marked newest older xs a plain a_is;
  b_is = first_of other_marked other_newest other_older ys b other_plain b_is;
}

-- the loop over the cells has come to a cell, whose current values are x and y
pub record AreAt (xs ys : List Datum) (a b : States) (cell : ℕ) (x y : Datum) : Type 0 where
  pub as_many : length ys ≡ length xs
  pub within : cell < length xs
  pub x_is : x ≡ get_or xs cell x
  pub y_is : y ≡ get_or ys cell y
  pub so_far : same_state (first_state a) (first_state b) ≡ same_state (drop cell (first_state a)) (drop cell (first_state b))

pub not_as_many : (xs ys : List Datum) (xs_marks ys_marks : List (List Change)) (a b : States) → AreOf xs ys xs_marks ys_marks a b → length xs ≢ length ys → false ≡ same_state (first_state a) (first_state b)
not_as_many xs ys xs_marks ys_marks a b of other =
    sym (other_length same (first_state a) (first_state b) (λ as_many. other (sym (length-first xs xs_marks a of.a_is) ∙ as_many ∙ length-first ys ys_marks b of.b_is)))

pub cells_equal : (xs ys : List Datum) (xs_marks ys_marks : List (List Change)) (a b : States) (cell : ℕ) (x y : Datum) → AreOf xs ys xs_marks ys_marks a b → AreAt xs ys a b cell x y → true ≡ same (earliest cell xs_marks x) (earliest cell ys_marks y) → same_state (first_state a) (first_state b) ≡ same_state (drop (cell + 1) (first_state a)) (drop (cell + 1) (first_state b))
cells_equal xs ys xs_marks ys_marks a b cell x y of here equal =
    let there : cell < length ys = omega (arith, here.within, here.as_many) in
    items_equal same (first_state a) (first_state b) cell (length xs) (earliest cell xs_marks x) (earliest cell ys_marks y) x y (length-first xs xs_marks a of.a_is) (length-first ys ys_marks b of.b_is ∙ here.as_many) here.within
    (λ within. get_or-first xs xs_marks a cell x x of.a_is here.x_is here.within)
    (λ within. get_or-first ys ys_marks b cell y y of.b_is here.y_is there)
    here.so_far (ap not equal)

pub cells_differ : (xs ys : List Datum) (xs_marks ys_marks : List (List Change)) (a b : States) (cell : ℕ) (x y : Datum) → AreOf xs ys xs_marks ys_marks a b → AreAt xs ys a b cell x y → false ≡ same (earliest cell xs_marks x) (earliest cell ys_marks y) → false ≡ same_state (first_state a) (first_state b)
cells_differ xs ys xs_marks ys_marks a b cell x y of here differ =
    let there : cell < length ys = omega (arith, here.within, here.as_many) in
    items_differ same (first_state a) (first_state b) cell (length xs) (earliest cell xs_marks x) (earliest cell ys_marks y) x y (length-first xs xs_marks a of.a_is) (length-first ys ys_marks b of.b_is ∙ here.as_many) here.within
    (λ within. get_or-first xs xs_marks a cell x x of.a_is here.x_is here.within)
    (λ within. get_or-first ys ys_marks b cell y y of.b_is here.y_is there)
    here.so_far (ap not differ)

pub cells_end : (xs ys : List Datum) (xs_marks ys_marks : List (List Change)) (a b : States) (cell : ℕ) → AreOf xs ys xs_marks ys_marks a b → length ys ≡ length xs → length xs ≤ cell → same_state (first_state a) (first_state b) ≡ same_state (drop cell (first_state a)) (drop cell (first_state b)) → true ≡ same_state (first_state a) (first_state b)
cells_end xs ys xs_marks ys_marks a b cell of as_many past so_far =
    items_end same (first_state a) (first_state b) cell (length xs) (length-first xs xs_marks a of.a_is) (length-first ys ys_marks b of.b_is ∙ as_many) past so_far
