-- What stands at the places of a list, where one is written.
use Rattle.std.proofs.Common.{◌≡◌, ℕ, zero, suc, ◌^◌, ◌<◌, ◌≤◌, ◌⊎◌, inl, inr, Option, None, Some, List, [], ◌∷◌, ◌++◌, length, drop, refl, ap, sym, subst, ◌∙◌, arith}
use Rattle.std.specs.Prelude.{slice_get, slice_index, slice_index_or, slice_set}
use Rattle.std.proofs.lemmas.Option.{get_or_from_slice_get}
use Rattle.event_keys.specs.declared.key.Key.{Key}
use Rattle.reference.specs.Queues.{rank_or_end}
use Rattle.task_seed.specs.Machines.{end_rank}
use Rattle.sure_groups.specs.Inputs.{heard_at}

pub some_same : {X : Type 0} (x y : X) → Some x ≡ Some y → x ≡ y
some_same x y e = cc

pub get_same : {X : Type 0} (xs : List X) (n : ℕ) (x : X) → n < length xs → slice_get (slice_set xs n x) n ≡ Some x
get_same [] n x h = absurd (omega (arith, h))
get_same (y ∷ ys) zero x h = refl
get_same (y ∷ ys) (suc n) x h = get_same ys n x (omega (arith, h))

pub get_other : {X : Type 0} (xs : List X) (n : ℕ) (x : X) (j : ℕ) → (j ≡ n → ⊥) → slice_get (slice_set xs n x) j ≡ slice_get xs j
get_other [] n x j ne = refl
get_other (y ∷ ys) zero x zero ne = absurd (ne refl)
get_other (y ∷ ys) zero x (suc j) ne = refl
get_other (y ∷ ys) (suc n) x zero ne = refl
get_other (y ∷ ys) (suc n) x (suc j) ne = get_other ys n x j (λ e. ne (ap suc e))

pub set_length : {X : Type 0} (xs : List X) (n : ℕ) (x : X) → length (slice_set xs n x) ≡ length xs
set_length [] n x = refl
set_length (y ∷ ys) zero x = refl
set_length (y ∷ ys) (suc n) x = ap suc (set_length ys n x)

pub index_other : {X : Type 0} (xs : List X) (n : ℕ) (x d : X) (j : ℕ) → (j ≡ n → ⊥) → slice_index_or (slice_set xs n x) j d ≡ slice_index_or xs j d
index_other [] n x d j ne = refl
index_other (y ∷ ys) zero x d zero ne = absurd (ne refl)
index_other (y ∷ ys) zero x d (suc j) ne = refl
index_other (y ∷ ys) (suc n) x d zero ne = refl
index_other (y ∷ ys) (suc n) x d (suc j) ne = index_other ys n x d j (λ e. ne (ap suc e))

-- an element that is put behind others
pub get_behind : {X : Type 0} (xs : List X) (x y : X) (j : ℕ) → slice_get (xs ++ x ∷ []) j ≡ Some y → (slice_get xs j ≡ Some y) ⊎ ((j ≡ length xs) × (y ≡ x))
get_behind [] x y zero e = inr (refl, some_same y x (sym e))
get_behind [] x y (suc j) e = let none : None ≡ Some y = e in cc
get_behind (z ∷ zs) x y zero e = inl e
get_behind (z ∷ zs) x y (suc j) e = go (get_behind zs x y j e)
  where
    go : (slice_get zs j ≡ Some y) ⊎ ((j ≡ length zs) × (y ≡ x)) → (slice_get zs j ≡ Some y) ⊎ ((suc j ≡ suc (length zs)) × (y ≡ x))
    go (inl there) = inl there
    go (inr (at, is)) = inr (ap suc at, is)

-- each key's rank is below that of the end
pub below_end : (r : ℕ) → r < 2 ^ 144 → r ≤ end_rank
unfolding end_rank
below_end r low = let up : r < 2 ^ 144 = low in omega (arith, up)

-- up to which rank a group was heard of
pub heard_there : (heard : List (Option Key)) (g : ℕ) (key : Option Key) → slice_get heard g ≡ Some key → heard_at heard g ≡ rank_or_end key
heard_there heard g key e = ap rank_or_end (get_or_from_slice_get heard g key None e)

pub heard_now : (heard : List (Option Key)) (g : ℕ) (key : Option Key) → g < length heard → heard_at (slice_set heard g key) g ≡ rank_or_end key
heard_now heard g key within = heard_there (slice_set heard g key) g key (get_same heard g key within)

pub heard_before : (heard : List (Option Key)) (n : ℕ) (key : Option Key) (g : ℕ) → (g ≡ n → ⊥) → heard_at (slice_set heard n key) g ≡ heard_at heard g
heard_before heard n key g ne = ap rank_or_end (index_other heard n key None g ne)

pub none_left : {X : Type 0} (xs : List X) (k : ℕ) → length xs ≤ k → drop k xs ≡ []
none_left [] zero h = refl
none_left [] (suc k) h = refl
none_left (x ∷ xs) zero h = absurd (omega (arith, h))
none_left (x ∷ xs) (suc k) h = none_left xs k (omega (arith, h))

pub behind : {X : Type 0} (xs ys : List X) (x : X) → (xs ++ x ∷ []) ++ ys ≡ xs ++ x ∷ ys
behind [] ys x = refl
behind (z ∷ zs) ys x = ap (λ l. z ∷ l) (behind zs ys x)

pub long_behind : {X : Type 0} (xs : List X) (x : X) → length (xs ++ x ∷ []) ≡ suc (length xs)
long_behind [] x = refl
long_behind (z ∷ zs) x = ap suc (long_behind zs x)

-- what holds at each place holds after one was put behind for which it holds there
pub each_behind : {X : Type 0} (P : ℕ → X → Type 0) (xs ys : List X) (x : X) → ys ≡ xs ++ x ∷ [] → ((j : ℕ) (y : X) → slice_get xs j ≡ Some y → P j y) → P (length xs) x → (j : ℕ) (y : X) → slice_get ys j ≡ Some y → P j y
each_behind P xs ys x is all own j y e = go (get_behind xs x y j (ap (λ l. slice_get l j) (sym is) ∙ e))
  where
    go : (slice_get xs j ≡ Some y) ⊎ ((j ≡ length xs) × (y ≡ x)) → P j y
    go (inl there) = all j y there
    go (inr (at, same)) = subst (λ i. P i y) (sym at) (subst (P (length xs)) (sym same) own)

pub index_past : (xs : List ℕ) (i : ℕ) → length xs ≤ i → slice_index xs i ≡ 0
index_past [] i h = refl
index_past (x ∷ xs) zero h = absurd (omega (arith, h))
index_past (x ∷ xs) (suc i) h = index_past xs i (omega (arith, h))
