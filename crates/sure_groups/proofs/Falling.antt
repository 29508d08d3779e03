-- Inputs in the order of keys, the greatest first.
use Rattle.std.proofs.Common.{◌≡◌, ℕ, zero, suc, ◌+◌, ◌<◌, ◌≤◌, ◌⊎◌, inl, inr, List, [], ◌∷◌, ◌++◌, drop, get_or, length, take, refl, ap, sym, subst, arith}
use Rattle.std.specs.List.{insert}
use Rattle.std.proofs.lemmas.List.{take-append-drop, take_more}
use Rattle.event_keys.specs.Ranks.{rank}
use Rattle.sure_groups.specs.declared.input.Input.{Input}
use Rattle.sure_groups.specs.Inputs.{AreFalling, IsOneOf}

pub in_left : (xs ys : List Input) (x : Input) → IsOneOf xs x → IsOneOf (xs ++ ys) x
in_left [] ys x h = absurd h
in_left (z ∷ zs) ys x (inl e) = inl e
in_left (z ∷ zs) ys x (inr later) = inr (in_left zs ys x later)

pub in_right : (xs ys : List Input) (x : Input) → IsOneOf ys x → IsOneOf (xs ++ ys) x
in_right [] ys x h = h
in_right (z ∷ zs) ys x h = inr (in_right zs ys x h)

pub in_either : (xs ys : List Input) (x : Input) → IsOneOf (xs ++ ys) x → IsOneOf xs x ⊎ IsOneOf ys x
in_either [] ys x h = inr h
in_either (z ∷ zs) ys x (inl e) = inl (inl e)
in_either (z ∷ zs) ys x (inr later) = go (in_either zs ys x later)
  where
    go : IsOneOf zs x ⊎ IsOneOf ys x → IsOneOf (z ∷ zs) x ⊎ IsOneOf ys x
    go (inl left) = inl (inr left)
    go (inr right) = inr right

-- the last one has the least key
pub last_least : (xs : List Input) (x : Input) → AreFalling (xs ++ x ∷ []) → (y : Input) → IsOneOf xs y → rank x.key < rank y.key
last_least [] x falls y h = absurd h
last_least (z ∷ zs) x falls y (inl e) =
    let low = falls.0 x (in_right zs (x ∷ []) x (inl refl)) in
    let same = ap (λ (i : Input). rank i.key) e in
    omega (arith, low, same)
last_least (z ∷ zs) x falls y (inr later) = last_least zs x falls.1 y later

pub falling_front : (xs : List Input) (x : Input) → AreFalling (xs ++ x ∷ []) → AreFalling xs
falling_front [] x falls = tt
falling_front (z ∷ zs) x falls = ((λ y h. falls.0 y (in_left zs (x ∷ []) y h)), falling_front zs x falls.1)

-- one is put between those with greater keys and those with lesser ones
pub falling_between : (xs ys : List Input) (x : Input) → AreFalling (xs ++ ys) → ((y : Input) → IsOneOf xs y → rank x.key < rank y.key) → ((y : Input) → IsOneOf ys y → rank y.key < rank x.key) → AreFalling (xs ++ x ∷ ys)
falling_between [] ys x falls greater lesser = (lesser, falls)
falling_between (z ∷ zs) ys x falls greater lesser = (below, falling_between zs ys x falls.1 (λ y h. greater y (inr h)) lesser)
  where
    by : (y : Input) → IsOneOf zs y ⊎ IsOneOf (x ∷ ys) y → rank y.key < rank z.key
    by y (inl left) = falls.0 y (in_left zs ys y left)
    by y (inr (inl e)) = let high = greater z (inl refl) in let same = ap (λ (i : Input). rank i.key) e in omega (arith, high, same)
    by y (inr (inr right)) = falls.0 y (in_right zs ys y right)

    below : (y : Input) → IsOneOf (zs ++ x ∷ ys) y → rank y.key < rank z.key
    below y h = by y (in_either zs (x ∷ ys) y h)

pub first_greatest : (y : Input) (ys : List Input) (r : ℕ) → AreFalling (y ∷ ys) → rank y.key < r → (z : Input) → IsOneOf (y ∷ ys) z → rank z.key < r
first_greatest y ys r falls low z (inl e) = let same = ap (λ (i : Input). rank i.key) e in omega (arith, low, same)
first_greatest y ys r falls low z (inr later) = let less = falls.0 z later in omega (arith, less, low)

-- one is put at a place
module _ (xs : List Input) (at : ℕ) (x : Input) where
  pub put_order : AreFalling xs → ((y : Input) → IsOneOf (take at xs) y → rank x.key < rank y.key) → ((y : Input) → IsOneOf (drop at xs) y → rank y.key < rank x.key) → AreFalling (insert xs at x)
  put_order falls greater lesser = falling_between (take at xs) (drop at xs) x (subst AreFalling (sym (take-append-drop at xs)) falls) greater lesser

  pub put_kept : (y : Input) → IsOneOf xs y → IsOneOf (insert xs at x) y
  put_kept y h = go (in_either (take at xs) (drop at xs) y (subst (λ l. IsOneOf l y) (sym (take-append-drop at xs)) h))
    where
      go : IsOneOf (take at xs) y ⊎ IsOneOf (drop at xs) y → IsOneOf (insert xs at x) y
      go (inl left) = in_left (take at xs) (x ∷ drop at xs) y left
      go (inr right) = in_right (take at xs) (x ∷ drop at xs) y (inr right)

  pub put_only : (y : Input) → IsOneOf (insert xs at x) y → IsOneOf xs y ⊎ (y ≡ x)
  put_only y h = go (in_either (take at xs) (x ∷ drop at xs) y h)
    where
      back : IsOneOf (take at xs ++ drop at xs) y → IsOneOf xs y
      back is = subst (λ l. IsOneOf l y) (take-append-drop at xs) is

      go : IsOneOf (take at xs) y ⊎ IsOneOf (x ∷ drop at xs) y → IsOneOf xs y ⊎ (y ≡ x)
      go (inl left) = inl (back (in_left (take at xs) (drop at xs) y left))
      go (inr (inl e)) = inr e
      go (inr (inr right)) = inl (back (in_right (take at xs) (drop at xs) y right))

  pub put_there : IsOneOf (insert xs at x) x
  put_there = in_right (take at xs) (x ∷ drop at xs) x (inl refl)

-- the elements before a place, and the one there
pub in_take : (xs : List Input) (k : ℕ) (d : Input) → k < length xs → (y : Input) → IsOneOf (take (k + 1) xs) y → IsOneOf (take k xs) y ⊎ (y ≡ get_or xs k d)
in_take xs k d within y h = go (in_either (take k xs) (get_or xs k d ∷ []) y (subst (λ l. IsOneOf l y) (take_more xs k d within) h))
  where
    go : IsOneOf (take k xs) y ⊎ IsOneOf (get_or xs k d ∷ []) y → IsOneOf (take k xs) y ⊎ (y ≡ get_or xs k d)
    go (inl left) = inl left
    go (inr (inl e)) = inr e
    go (inr (inr none)) = absurd none

pub at_place : (xs : List Input) (k : ℕ) (d : Input) → k < length xs → IsOneOf xs (get_or xs k d)
at_place [] k d within = absurd (omega (arith, within))
at_place (x ∷ xs) zero d within = inl refl
at_place (x ∷ xs) (suc k) d within = inr (at_place xs k d (omega (arith, within)))

-- those from a place on are below some rank, where the one there is
pub lesser_from : (xs : List Input) (k : ℕ) (d : Input) (r : ℕ) → k < length xs → rank (get_or xs k d).key < r → AreFalling xs → (y : Input) → IsOneOf (drop k xs) y → rank y.key < r
lesser_from [] k d r within low falls y h = absurd (omega (arith, within))
lesser_from (z ∷ zs) zero d r within low falls y h = first_greatest z zs r falls low y h
lesser_from (z ∷ zs) (suc k) d r within low falls y h = lesser_from zs k d r (omega (arith, within)) low falls.1 y h

-- where the last one isn't below some rank, none is
pub from_last : (k : ℕ) (xs : List Input) → AreFalling xs → ((front : List Input) (x : Input) → xs ≡ front ++ x ∷ [] → k ≤ rank x.key) → (y : Input) → IsOneOf xs y → k ≤ rank y.key
from_last k [] falls last y h = absurd h
from_last k (x ∷ []) falls last y (inl e) = let low = last [] x refl in let same = ap (λ (i : Input). rank i.key) e in omega (arith, low, same)
from_last k (x ∷ []) falls last y (inr none) = absurd none
from_last k (x ∷ z ∷ zs) falls last y (inl e) =
    let low = from_last k (z ∷ zs) falls.1 (λ front i is. last (x ∷ front) i (ap (λ l. x ∷ l) is)) z (inl refl) in
    let less = falls.0 z (inl refl) in
    let same = ap (λ (i : Input). rank i.key) e in
    omega (arith, low, less, same)
from_last k (x ∷ z ∷ zs) falls last y (inr later) = from_last k (z ∷ zs) falls.1 (λ front i is. last (x ∷ front) i (ap (λ l. x ∷ l) is)) y later
