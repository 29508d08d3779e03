-- The root of a walk, and what the walk from it finds.
use Rattle.std.specs.Prelude.{◌≡◌, ℕ, zero, suc, ◌+◌, ◌≤◌, Bool as Truth, true, List, [], ◌∷◌, take, filter, length, replicate, refl}
use Rattle.std.specs.List.{range_with_len}
use Rattle.std.specs.Result.{IfOk, OnOk}
use Rattle.std.proofs.Common.{Result, Ok, Err, arith, ap, sym, ◌∙◌, subst}
use Rattle.conditions.specs.Conditions.{IsSolved, AreStages, left_after, left_after_all, is_one_left}
use Rattle.conditions.specs.Stages.{same_left}
use Rattle.conditions.specs.declared.condition.Condition.{Condition}
use Rattle.conditions.specs.declared.condition.Stage.{Stage}
use Rattle.io_automata.specs.Automata.{Transition}
use Rattle.io_automata.specs.Steps.{holds, scope_in}
use Rattle.io_automata.specs.Tuples.{many, tuple_at}
use Rattle.io_automata.specs.declared.automaton.Param.{Param}
use Rattle.outcomes.specs.Solving.{places_in, passes}
use Rattle.outcomes.specs.declared.spans.Span.{Span}
use Rattle.outcomes.proofs.Ranges.{kept_same}
use Rattle.terms.specs.Datum.{Datum}
use Rattle.terms.specs.declared.scalar.Scalar.{Scalar}

-- what follows of a value
pub if_ok : {T E : Type 0} (r : Result T E) (P Q : T → Type 0) → ((x : T) → P x → Q x) → IfOk r P → IfOk r Q
if_ok (Ok x) P Q f p = f x p
if_ok (Err e) P Q f p = p

pub on_ok : {T E : Type 0} (r : Result T E) (P Q : Type 0) → (P → Q) → OnOk r P → OnOk r Q
on_ok (Ok x) P Q f p = f p
on_ok (Err e) P Q f p = p

none_taken : (args : List Scalar) → take 0 [] ≡ take 0 args
none_taken [] = refl
none_taken (arg ∷ args) = refl

-- the first stage asks no argument
pub asked_first : (formals : List Scalar) (state : List Datum) (first : Stage) (rest stages : List Stage) (left new : List Truth) (args : List Scalar) → AreStages (length left) 0 stages → new ≡ left_after (scope_in formals []) state first.branches.items left → stages ≡ first ∷ rest → passes formals state rest new args ≡ passes formals state stages left args
asked_first formals state first rest stages left new args are new_is stages_are =
    let all = subst (AreStages (length left) 0) stages_are are in
    ap (λ xs. is_one_left (left_after_all (scope_in formals args) state rest xs)) (new_is ∙ same_left 0 first.branches.items (scope_in formals args) state [] args left all.1 (none_taken args))
    ∙ sym (ap (λ ss. passes formals state ss left args) stages_are)

pub long_enough : (n : ℕ) (xs : List Scalar) → n ≤ length xs → length (take n xs) ≡ n
long_enough zero [] few = refl
long_enough zero (x ∷ xs) few = refl
long_enough (suc n) [] few = absurd (omega (arith, few))
long_enough (suc n) (x ∷ xs) few = ap suc (long_enough n xs (omega (arith, few)))

-- what passes from the root is that for which the condition holds
pub solved : (entry : Transition) (condition : Condition) (formals : List Scalar) (state : List Datum) (all : List Param) (stages : List Stage) (left : List Truth) (count : ℕ) (spans : List Span) → IsSolved entry.precondition condition → count ≡ many all → all ≡ entry.params → ((args : List Scalar) → passes formals state stages left args ≡ passes formals state condition.stages.items (replicate condition.branches true) args) → places_in spans ≡ filter (λ at. passes formals state stages left (tuple_at formals all at)) (range_with_len 0 count) → places_in spans ≡ filter (λ at. holds entry formals state (tuple_at formals entry.params at)) (range_with_len 0 (many entry.params))
solved entry condition formals state all stages left count spans is count_is all_is same found =
    found
    ∙ ap (λ ps. filter (λ at. passes formals state stages left (tuple_at formals ps at)) (range_with_len 0 count)) all_is
    ∙ ap (λ (n : ℕ). filter (λ at. passes formals state stages left (tuple_at formals entry.params at)) (range_with_len 0 n)) (count_is ∙ ap many all_is)
    ∙ kept_same (λ at. passes formals state stages left (tuple_at formals entry.params at)) (λ at. holds entry formals state (tuple_at formals entry.params at)) 0 (many entry.params) (λ j less. same (tuple_at formals entry.params (0 + j)) ∙ is.met (scope_in formals (tuple_at formals entry.params (0 + j))) state)
