-- Counting among items, whichever way they go.
use Rattle.std.proofs.Common.{◌≡◌, ℕ, ◌+◌, ◌&&◌, Bool, true, false, cond, List, [], ◌∷◌, ◌++◌, reverse, refl, ap, sym, ◌∙◌, arith}
use Rattle.std.specs.Prelude.{count_by}
use Rattle.std.specs.List.{list_all}
use mathlib.Core.List.{reverse_aux}
use Rattle.std.proofs.lemmas.Bool.{and_parts}
use Rattle.std.proofs.lemmas.List.{append-nil}
use Rattle.std.proofs.lemmas.List.Sums.{sum_by-cons}
use Rattle.std.proofs.lemmas.List.Sorted.{IsPermutation-reverse, sum_by-IsPermutation}
use Rattle.raw_events.specs.Around.{Around}
use Rattle.antimessage.specs.Counts.{Each}
use Rattle.message_balance.specs.Balance.{all_of}

plus_none : (n : ℕ) → n ≡ 0 + n
plus_none n = omega arith

module _ {X : Type 0} (p : X → Bool) where
  -- one more is counted, or it isn't
  pub count_next : (x : X) (xs : List X) → cond (p x) 1 0 + count_by p xs ≡ count_by p (x ∷ xs)
  count_next x xs = sym (sum_by-cons (λ y. cond (p y) 1 0) x xs)

  pub count_none : (x : X) (xs : List X) → p x ≡ false → count_by p xs ≡ count_by p (x ∷ xs)
  count_none x xs h = plus_none (count_by p xs) ∙ ap (λ (b : Bool). cond b 1 0 + count_by p xs) (sym h) ∙ count_next x xs

shuffled : (a b c : Bool) → (a && (b && c)) ≡ ((b && a) && c)
shuffled true true c = refl
shuffled true false c = refl
shuffled false true c = refl
shuffled false false c = refl

and_true : (a : Bool) → (a && true) ≡ a
and_true true = refl
and_true false = refl

module _ {X : Type 0} where
  -- all of a list, its cursor at the end or at the front
  pub all_before : (xs : Around X) → xs.after ≡ [] → all_of xs ≡ reverse xs.before
  all_before xs h = ap (λ ys. reverse xs.before ++ ys) h ∙ append-nil (reverse xs.before)

  pub all_after : (xs : Around X) → xs.before ≡ [] → all_of xs ≡ xs.after
  all_after xs h = ap (λ ys. reverse ys ++ xs.after) h

  pub count_reversed : (p : X → Bool) (xs : List X) → count_by p (reverse xs) ≡ count_by p xs
  count_reversed p xs = sum_by-IsPermutation (λ x. cond (p x) 1 0) xs (reverse xs) (IsPermutation-reverse xs)

  all_along : (p : X → Bool) (xs ys : List X) → list_all p (reverse_aux xs ys) ≡ (list_all p xs && list_all p ys)
  all_along p [] ys = refl
  all_along p (x ∷ xs) ys = all_along p xs (x ∷ ys) ∙ shuffled (list_all p xs) (p x) (list_all p ys)

  pub all_reversed : (p : X → Bool) (xs : List X) → list_all p (reverse xs) ≡ list_all p xs
  all_reversed p xs = all_along p xs [] ∙ and_true (list_all p xs)

  -- each passes
  pub each_passes : (p : X → Bool) (Q : X → Type 0) → ((x : X) → Q x → p x ≡ true) → (xs : List X) → Each Q xs → list_all p xs ≡ true
  each_passes p Q h [] e = refl
  each_passes p Q h (x ∷ xs) e = let first = h x e.0 in let rest = each_passes p Q h xs e.1 in (λ v. first v && rest v)

  pub passes_each : (p : X → Bool) (Q : X → Type 0) (xs : List X) → Each Q xs → list_all p xs ≡ true → Each (λ x. Q x × (p x ≡ true)) xs
  passes_each p Q [] e h = tt
  passes_each p Q (x ∷ xs) e h = let parts = and_parts (p x) (list_all p xs) h in ((e.0, parts.0), passes_each p Q xs e.1 parts.1)
