-- The laws of the turns that a table gives.
use Rattle.std.specs.Prelude.{◌≡◌, ℕ, zero, suc, ◌+◌, ◌≤◌, Bool, true, false, ◌&&◌, None, Some, List, [], ◌∷◌, slice_get, refl}
use Rattle.std.proofs.Common.{ap, subst, arith}
use Rattle.std.specs.List.{list_all}
use Rattle.std.specs.Cmp.Lexicographic.{pointwise}
use Rattle.std.specs.declared.vec.Vec.{Vec}
use Rattle.std.proofs.lemmas.Bool.Decides.{nat_tests}
use Rattle.task_seed.specs.Gaps.{is_in_range, all_in_range}
use Rattle.task_seed.specs.declared.turns.Turn.{Turn}
use Rattle.task_seed.specs.declared.table_turns.TableTurns.{TableTurns}
use Rattle.task_seed.specs.contracts.turns.TurnPartialEq.TheImpl as turn_eq
use Rattle.task_seed.specs.contracts.table_turns.TableTurnsPartialEq.TheImpl as table_eq
use Rattle.task_seed.specs.Given.{table_turn}
use Rattle.task_seed.specs.Rows.{turns_at}

and_parts : (a b : Bool) → (a && b) ≡ true → (a ≡ true) × (b ≡ true)
and_parts true b h = (refl, h)
and_parts false b h = cc

-- what all pass, each passes
passes : {A : Type 0} (p : A → Bool) (xs : List A) (i : ℕ) (x : A) → list_all p xs ≡ true → slice_get xs i ≡ Some x → p x ≡ true
passes p [] i x all at = cc
passes p (y ∷ xs) zero x all at = let h = and_parts (p y) (list_all p xs) all in let same : y ≡ x = cc in subst (λ z. p z ≡ true) same h.0
passes p (y ∷ xs) (suc i) x all at = passes p xs i x (and_parts (p y) (list_all p xs) all).1 at

-- a list of turns has its gaps in range
in_list : {A : Type 0} (lists : List (Vec Turn A)) (i : ℕ) → all_in_range lists ≡ true → list_all is_in_range (turns_at lists i) ≡ true
in_list [] i h = refl
in_list (turns ∷ lists) zero h = (and_parts (list_all is_in_range turns.items) (all_in_range lists) h).0
in_list (turns ∷ lists) (suc i) h = in_list lists i (and_parts (list_all is_in_range turns.items) (all_in_range lists) h).1

range : (turn : Turn) → is_in_range turn ≡ true → turn.gap ≤ 65535
range turn h = grind (arith, nat_tests)

pub table_gap_range : (t : TableTurns) (i n : ℕ) (turn : Turn) → table_turn t i n ≡ Some turn → turn.gap ≤ 65535
table_gap_range t i n turn e =
    range turn (passes is_in_range (turns_at t.turns.items i) n turn (in_list t.turns.items i t.in_range) e)

same_turn : (a b : Turn) → turn_eq.ghosts.eq a b ≡ true → a ≡ b
same_turn a b h = grind (arith, nat_tests)

same_turns : (xs ys : List Turn) → pointwise turn_eq.ghosts.eq xs ys ≡ true → xs ≡ ys
same_turns [] [] h = refl
same_turns [] (y ∷ ys) h = cc
same_turns (x ∷ xs) [] h = cc
same_turns (x ∷ xs) (y ∷ ys) h =
    let parts = and_parts (turn_eq.ghosts.eq x y) (pointwise turn_eq.ghosts.eq xs ys) h in
    let first = same_turn x y parts.0 in
    let rest = same_turns xs ys parts.1 in cc

same_lists : {A : Type 0} (xs ys : List (Vec Turn A)) → pointwise (λ v w. pointwise turn_eq.ghosts.eq v.items w.items) xs ys ≡ true → (i : ℕ) → turns_at xs i ≡ turns_at ys i
same_lists [] [] h i = refl
same_lists [] (y ∷ ys) h i = cc
same_lists (x ∷ xs) [] h i = cc
same_lists (x ∷ xs) (y ∷ ys) h zero =
    same_turns x.items y.items (and_parts (pointwise turn_eq.ghosts.eq x.items y.items) (pointwise (λ v w. pointwise turn_eq.ghosts.eq v.items w.items) xs ys) h).0
same_lists (x ∷ xs) (y ∷ ys) h (suc i) =
    same_lists xs ys (and_parts (pointwise turn_eq.ghosts.eq x.items y.items) (pointwise (λ v w. pointwise turn_eq.ghosts.eq v.items w.items) xs ys) h).1 i

pub table_alike : (s t : TableTurns) → table_eq.ghosts.eq s t ≡ true → (i n : ℕ) → table_turn s i n ≡ table_turn t i n
table_alike s t h i n = ap (λ turns. slice_get turns n) (same_lists s.turns.items t.turns.items h i)

after_end : {X : Type 0} (xs : List X) (n : ℕ) → slice_get xs n ≡ None → slice_get xs (suc n) ≡ None
after_end [] n h = refl
after_end (x ∷ xs) zero h = cc
after_end (x ∷ xs) (suc n) h = after_end xs n h

pub table_ended : (t : TableTurns) (i n : ℕ) → table_turn t i n ≡ None → table_turn t i (n + 1) ≡ None
table_ended t i n h = let e : n + 1 ≡ suc n = omega arith in rw e (after_end (turns_at t.turns.items i) n h)
