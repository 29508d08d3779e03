-- Lists of numbers in a row.
use Rattle.std.specs.Prelude.{◌≡◌, ℕ, zero, suc, ◌+◌, ◌<◌, ◌==◌, ◌||◌, Bool, true, false, cond, List, [], ◌∷◌, ◌++◌, map, filter, All, Contains, refl}
use Rattle.std.specs.List.{range_with_len}
use Rattle.std.proofs.Common.{arith, ap, sym, ◌∙◌}
use Rattle.std.proofs.lemmas.Bool.{eqb-true}
use Rattle.std.proofs.lemmas.List.Elements.{All-contains, All-cons, All-nil, All-filter, All-weaker, filter_passes, Contains-append_right}
use Rattle.std.proofs.lemmas.List.FromFn.{filter_of_map_range_with_len_more}
use Rattle.io_automata.specs.Receivers.{IsIn}

same_map : (xs : List ℕ) → map (λ x. x) xs ≡ xs
same_map [] = refl
same_map (x ∷ xs) = ap (λ ys. x ∷ ys) (same_map xs)

pub filter_range_more : (p : ℕ → Bool) (n : ℕ) → filter p (range_with_len 0 (n + 1)) ≡ filter p (range_with_len 0 n) ++ cond (p n) (n ∷ []) []
filter_range_more p n =
    ap (filter p) (sym (same_map (range_with_len 0 (n + 1)))) ∙ filter_of_map_range_with_len_more p (λ x. x) 0 n n (omega arith)
    ∙ ap (λ xs. filter p xs ++ cond (p n) (n ∷ []) []) (same_map (range_with_len 0 n))

-- what is in a list stands there
pub contains_in : (j : ℕ) (xs : List ℕ) → IsIn j xs ≡ true → Contains xs j
contains_in j [] h = cc
contains_in j (x ∷ xs) h = go (j == x) refl h (contains_in j xs) where
  go : (b : Bool) → (j == x) ≡ b → (b || IsIn j xs) ≡ true → (IsIn j xs ≡ true → Contains xs j) → Contains (x ∷ xs) j
  go true same is later = (0, omega arith, sym (eqb-true j x same))
  go false other is later = Contains-append_right (x ∷ []) xs j (later is)

range_below : (a n : ℕ) → All (λ x. x < a + n) (range_with_len a n)
range_below a zero = All-nil (λ x. x < a + 0)
range_below a (suc n) =
    All-cons (λ x. x < a + suc n) a (range_with_len (a + 1) n) (omega arith)
    (All-weaker (λ x. x < (a + 1) + n) (λ x. x < a + suc n) (λ x below. omega (arith, below)) (range_with_len (a + 1) n) (range_below (a + 1) n))

-- what a test keeps of the first numbers is one of them, and passes
pub kept_below : (p : ℕ → Bool) (n i : ℕ) → Contains (filter p (range_with_len 0 n)) i → i < n
kept_below p n i stands = let below = All-contains (λ x. x < 0 + n) (filter p (range_with_len 0 n)) i (All-filter p (λ x. x < 0 + n) (range_with_len 0 n) (range_below 0 n)) stands in omega (arith, below)

pub kept_passes : (p : ℕ → Bool) (n i : ℕ) → Contains (filter p (range_with_len 0 n)) i → p i ≡ true
kept_passes p n i stands = All-contains (λ x. p x ≡ true) (filter p (range_with_len 0 n)) i (filter_passes p (range_with_len 0 n)) stands

pub none_in : (i : ℕ) → Contains [] i → ⊥
none_in i stands = let below = stands.1 in absurd (omega (arith, below))
