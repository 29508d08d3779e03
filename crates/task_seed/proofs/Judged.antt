-- Rows without faults, and the first one with a fault.
use Rattle.std.proofs.Common.{◌≡◌, ◌≢◌, set, ℕ, zero, suc, ◌+◌, ◌<◌, ◌≤◌, Bool, true, false, cond, ◌&&◌, eqb, List, [], ◌∷◌, ◌++◌, map, filter, length, take, drop, get_or, leb, All, Option, Some, refl, ap, subst, sym, ◌∙◌, inl, inr, arith}
use Rattle.std.specs.List.{list_all, AllByRecursion}
use Rattle.std.specs.declared.vec.Vec.{Vec}
use Rattle.std.proofs.Math.Seq.{split_at}
use Rattle.std.proofs.lemmas.List.{length-take-le}
use Rattle.std.proofs.lemmas.List.Elements.{recursion_from_All, filter-append}
use Rattle.std.proofs.lemmas.Bool.{cases_lt, eq-eqb}
use Rattle.std.proofs.lemmas.List.{take_more, map-append}
use Rattle.std.proofs.Common.{append-nil}
use Rattle.std.proofs.lemmas.Bool.Decides.{nat_tests, eqb_tells}
use Rattle.io_automata.specs.Automata.{Instance}
use Rattle.task_seed.specs.declared.table.Row.{Row}
use Rattle.task_seed.specs.declared.turns.Turn.{Turn}
use Rattle.task_seed.specs.Faults.{HasFault, IsFirstFault}
use Rattle.task_seed.specs.Gaps.{is_in_range, all_in_range}
use Rattle.task_seed.specs.Rows.{turn_of_row, turns_of, turns_at}

pub first_at : (composition : List Instance) (rows : List Row) (k number : ℕ) (line : Option ℕ) (d : Row) → k < length rows → All (λ r. (n : ℕ) → HasFault composition r n → ⊥) (take k rows) → line ≡ Some (k + 1) → HasFault composition (get_or rows k d) number → ((n : ℕ) → HasFault composition (get_or rows k d) n → number ≤ n) → IsFirstFault composition rows number line
first_at composition rows k number line d inside sound counted has least =
    let here : length (take k rows) ≡ k = length-take-le k rows (omega arith) in
    record {
      before = take k rows;
      row = get_or rows k d;
      after = drop (suc k) rows;
      split = split_at rows k d inside;
      sound = sound;
      counted = counted ∙ ap (λ n. Some (n + 1)) (sym here);
      has = has;
      least = least;
    }

gap_passes : (gap : ℕ) → gap ≤ 65535 → leb gap 65535 ≡ true
gap_passes gap high = grind (arith, nat_tests)

-- a row without faults is of a component that exists
pub row_exists : (composition : List Instance) (row : Row) → ((n : ℕ) → HasFault composition row n → ⊥) → row.component < length composition
row_exists composition row sound =
    elim (cases_lt row.component (length composition)) [ inl exists ↦ exists | inr missing ↦ absurd (sound 30 (inr (inr (refl, missing)))) ]

-- a row without faults has its gap in range
row_in_range : (composition : List Instance) (row : Row) → ((n : ℕ) → HasFault composition row n → ⊥) → is_in_range (turn_of_row row) ≡ true
row_in_range composition row sound =
    gap_passes row.gap (elim (cases_lt 65535 row.gap) [ inl l ↦ absurd (sound 27 (inl (refl, l))) | inr g ↦ g ])

-- one row more
put : (test : Bool) (row : Row) (rows : List Row) → is_in_range (turn_of_row row) ≡ true → list_all is_in_range (map turn_of_row rows) ≡ true → list_all is_in_range (map turn_of_row (cond test (row ∷ rows) rows)) ≡ true
put true row rows here later = ap (λ b. b && list_all is_in_range (map turn_of_row rows)) here ∙ later
put false row rows here later = later

rows_in_range : (composition : List Instance) (rows : List Row) (i : ℕ) → AllByRecursion (λ r. (n : ℕ) → HasFault composition r n → ⊥) rows → list_all is_in_range (turns_of rows i) ≡ true
rows_in_range composition [] i h = refl
rows_in_range composition (row ∷ rows) i h =
    put (eqb row.component i) row (filter (λ r. eqb r.component i) rows) (row_in_range composition row h.0) (rows_in_range composition rows i h.1)

pub turns_in_range : (composition : List Instance) (rows : List Row) (i : ℕ) → All (λ r. (n : ℕ) → HasFault composition r n → ⊥) rows → list_all is_in_range (turns_of rows i) ≡ true
turns_in_range composition rows i h =
    rows_in_range composition rows i (recursion_from_All (λ r. (n : ℕ) → HasFault composition r n → ⊥) rows h)

-- the turns of rows and more rows
turns_of-append : (rows more : List Row) (i : ℕ) → turns_of (rows ++ more) i ≡ turns_of rows i ++ turns_of more i
turns_of-append rows more i =
    ap (map turn_of_row) (filter-append (λ row. eqb row.component i) rows more)
    ∙ map-append turn_of_row (filter (λ row. eqb row.component i) rows) (filter (λ row. eqb row.component i) more)

-- the turns of one row more
pub turns_of-more : (rows : List Row) (k i : ℕ) (d : Row) (have : List Turn) → k < length rows → have ≡ turns_of (take k rows) i → have ++ turns_of (get_or rows k d ∷ []) i ≡ turns_of (take (k + 1) rows) i
turns_of-more rows k i d have inside is =
    ap (λ turns. turns ++ turns_of (get_or rows k d ∷ []) i) is
    ∙ sym (turns_of-append (take k rows) (get_or rows k d ∷ []) i)
    ∙ ap (λ rs. turns_of rs i) (sym (take_more rows k d inside))

turns_of_one : (row : Row) (i : ℕ) (own : Bool) → eqb row.component i ≡ own → turns_of (row ∷ []) i ≡ map turn_of_row (cond own (row ∷ []) [])
turns_of_one row i own e = ap (λ b. map turn_of_row (cond b (row ∷ []) [])) e

eqb_self : (n : ℕ) → eqb n n ≡ true
eqb_self n = eq-eqb n n refl

-- lists whose turns have their gaps in range
pub lists_in_range : {A : Type 0} (lists : List (Vec Turn A)) → ((i : ℕ) → list_all is_in_range (turns_at lists i) ≡ true) → all_in_range lists ≡ true
lists_in_range [] h = refl
lists_in_range (turns ∷ lists) h = ap (λ b. b && all_in_range lists) (h 0) ∙ lists_in_range lists (λ i. h (suc i))

-- an empty list more
pub empty_more : {A : Type 0} (lists : List (Vec Turn A)) (v : Vec Turn A) → v.items ≡ [] → ((i : ℕ) → turns_at lists i ≡ []) → (i : ℕ) → turns_at (lists ++ v ∷ []) i ≡ []
empty_more [] v none h zero = none
empty_more [] v none h (suc i) = refl
empty_more (x ∷ lists) v none h zero = h 0
empty_more (x ∷ lists) v none h (suc i) = empty_more lists v none (λ j. h (suc j)) i

-- what a write of a list changes
at_same : {A : Type 0} (lists : List (Vec Turn A)) (j : ℕ) (v : Vec Turn A) → j < length lists → turns_at (set lists j v) j ≡ v.items
at_same [] j v h = absurd (omega arith)
at_same (x ∷ lists) zero v h = refl
at_same (x ∷ lists) (suc j) v h = at_same lists j v (omega arith)

at_other : {A : Type 0} (lists : List (Vec Turn A)) (j i : ℕ) (v : Vec Turn A) → j ≢ i → turns_at (set lists j v) i ≡ turns_at lists i
at_other [] j i v ne = refl
at_other (x ∷ lists) zero zero v ne = absurd (ne refl)
at_other (x ∷ lists) zero (suc i) v ne = refl
at_other (x ∷ lists) (suc j) zero v ne = refl
at_other (x ∷ lists) (suc j) (suc i) v ne = at_other lists j i v (λ e. ne (ap suc e))

at_read : {A : Type 0} (lists : List (Vec Turn A)) (j : ℕ) (d : Vec Turn A) → j < length lists → turns_at lists j ≡ (get_or lists j d).items
at_read [] j d h = absurd (omega arith)
at_read (x ∷ lists) zero d h = refl
at_read (x ∷ lists) (suc j) d h = at_read lists j d (omega arith)

-- a turn put at the end of its component's list
pub added : {A : Type 0} (lists : List (Vec Turn A)) (row : Row) (before after d : Vec Turn A) → row.component < length lists → before ≡ get_or lists row.component d → after.items ≡ before.items ++ turn_of_row row ∷ [] → (i : ℕ) → turns_at (set lists row.component after) i ≡ turns_at lists i ++ turns_of (row ∷ []) i
added lists row before after d inside was is i =
    elim (eqb_tells row.component i) [
      | inl same ↦
          subst (λ (j : ℕ). turns_at (set lists row.component after) j ≡ turns_at lists j ++ turns_of (row ∷ []) j) same.1
          (at_same lists row.component after inside
          ∙ is
          ∙ ap (λ (v : Vec Turn _). v.items ++ turn_of_row row ∷ []) was
          ∙ ap (λ turns. turns ++ turn_of_row row ∷ []) (sym (at_read lists row.component d inside))
          ∙ ap (λ turns. turns_at lists row.component ++ turns) (sym (turns_of_one row row.component true (eqb_self row.component))))
      | inr other ↦
          at_other lists row.component i after other.1
          ∙ sym (append-nil (turns_at lists i))
          ∙ ap (λ turns. turns_at lists i ++ turns) (sym (turns_of_one row i false other.0))
    ]
