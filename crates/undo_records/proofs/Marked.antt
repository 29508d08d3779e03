-- What stays of the states below when a mark, a write or a roll-back changes what is kept.
use Rattle.std.specs.Prelude.{◌≡◌, ℕ, zero, suc, ◌+◌, ◌-◌, ◌≤◌, Bool, true, false, List, [], ◌∷◌, ◌++◌, length, map, take, slice_set, refl}
use Rattle.std.proofs.Common.{arith, ap, ◌∙◌, sym}
use Rattle.terms.specs.Datum.{Datum}
use Rattle.undo_records.specs.declared.change.Change.{Change}
use Rattle.undo_records.specs.declared.change.Change.TheVariants.{Cell}
use Rattle.undo_records.specs.Changes.{restored, unwound, unwound-append, states_below}
use Rattle.undo_records.specs.First.{oldest, first_state}
use Rattle.undo_records.specs.Marks.{marks_of, IsPlain, IsCovered}
use Rattle.undo_records.specs.States.{States, without_first}
use Rattle.undo_records.specs.Written.{seen, marks_counted, forgotten}

-- a change is put at the end
pub put_last : (change : Change) (changes new : List Change) → new ≡ changes ++ change ∷ [] → (state : List Datum) → unwound new state ≡ unwound changes (restored change state)
put_last change changes new is state = ap (λ cs. unwound cs state) is ∙ unwound-append changes change state

set_over : (k : ℕ) (a b : Datum) (state : List Datum) → slice_set (slice_set state k a) k b ≡ slice_set state k b
set_over k a b [] = refl
set_over zero a b (x ∷ xs) = refl
set_over (suc k) a b (x ∷ xs) = ap (λ ys. x ∷ ys) (set_over k a b xs)

-- and then covers all that is written into its cell
pub covered_by_last : (cell : ℕ) (value : Datum) (changes new : List Change) → new ≡ changes ++ Cell cell value ∷ [] → IsCovered cell new
covered_by_last cell value changes new is old state =
    put_last (Cell cell value) changes new is (slice_set state cell old)
    ∙ ap (unwound changes) (set_over cell old value state)
    ∙ sym (put_last (Cell cell value) changes new is state)

-- with this value in it
pub put_value_last : (cell : ℕ) (value old : Datum) (changes new : List Change) → new ≡ changes ++ Cell cell value ∷ [] → value ≡ old → (state : List Datum) → unwound new state ≡ unwound changes (slice_set state cell old)
put_value_last cell value old changes new is same state = put_last (Cell cell value) changes new is state ∙ ap (λ d. unwound changes (slice_set state cell d)) same

-- all marks are counted
pub counted : {A : Type 0} (f : A → List Change) (is_marked : Bool) (newest : List Change) (older : List A) (current : List Datum) (states : States) → seen current (marks_of is_marked newest (map f older)) ≡ states → is_marked ≡ true → length states.below ≡ length older + 1
counted f is_marked newest older current states view is =
    ap (λ (s : States). length s.below) (sym view)
    ∙ ap (λ b. length (states_below (marks_of b newest (map f older)) current)) is
    ∙ (let rest = marks_counted f older (unwound newest current) in omega (arith, rest))

pub none_counted : (is_marked : Bool) (newest : List Change) (older : List (List Change)) (current : List Datum) (states : States) → seen current (marks_of is_marked newest older) ≡ states → is_marked ≡ false → states.below ≡ []
none_counted is_marked newest older current states view is =
    ap (λ (s : States). s.below) (sym view) ∙ ap (λ b. states_below (marks_of b newest older) current) is

pub at_most : {A : Type 0} (f : A → List Change) (is_marked : Bool) (newest : List Change) (older : List A) (current : List Datum) (states : States) → seen current (marks_of is_marked newest (map f older)) ≡ states → length states.below ≤ length older + 1
at_most f false newest older current states view = let none = ap length (none_counted false newest (map f older) current states view refl) in omega (arith, none)
at_most f true newest older current states view = let all = counted f true newest older current states view refl in omega (arith, all)

take_zero : {A : Type 0} (xs : List A) → take 0 xs ≡ []
take_zero [] = refl
take_zero (x ∷ xs) = refl

take_empty : (n : ℕ) (xs : List (List Datum)) → xs ≡ [] → take n xs ≡ []
take_empty zero xs is = take_zero xs
take_empty (suc n) xs is = ap (take (suc n)) is

-- all are forgotten
pub forgotten_all : (states : States) (count : ℕ) → length states.below ≤ count → without_first count states ≡ record { current = states.current; below = [] }
forgotten_all states count all =
    let none_left : length states.below - count ≡ 0 = omega (arith, all) in
    λ i. record { current = states.current; below = (ap (λ n. take n states.below) none_left ∙ take_zero states.below) i }

-- the oldest are forgotten
pub forgotten_first : {A : Type 0} (f : A → List Change) (is_marked : Bool) (newest : List Change) (older rest : List A) (current : List Datum) (states : States) (count : ℕ) → seen current (marks_of is_marked newest (map f older)) ≡ states → count ≤ length older → rest ≡ take (length older - count) older → seen current (marks_of is_marked newest (map f rest)) ≡ without_first count states
forgotten_first f is_marked newest older rest current states count view few is = go is_marked ∙ ap (without_first count) view where
  go : (is_marked : Bool) → seen current (marks_of is_marked newest (map f rest)) ≡ without_first count (seen current (marks_of is_marked newest (map f older)))
  go false = λ i. record { current = current; below = sym (take_empty (0 - count) [] refl) i }
  go true =
      let state : List Datum = unwound newest current in
      let below : List (List Datum) = states_below (map f older) state in
      let all : length below ≡ length older = marks_counted f older state in
      let kept : states_below (map f rest) state ≡ take (length below - count) below = forgotten f older rest state (length older - count) count is (ap (λ n. n - count) (sym all)) in
      let one_more : suc (length below) - count ≡ suc (length below - count) = omega (arith, all, few) in
      λ i. record { current = current; below = ((λ j. state ∷ kept j) ∙ sym (ap (λ k. take k (state ∷ below)) one_more)) i }

-- the first state: where there is no mark it is as if there were one with nothing written since
pub first_of : (is_marked : Bool) (newest : List Change) (older : List (List Change)) (current : List Datum) (states : States) → IsPlain is_marked newest older → seen current (marks_of is_marked newest older) ≡ states → oldest current (states_below (newest ∷ older) current) ≡ first_state states
first_of true newest older current states plain view = ap first_state view
first_of false newest older current states plain view =
    (λ i. oldest current (states_below ((plain refl).0 i ∷ (plain refl).1 i) current)) ∙ ap first_state view
