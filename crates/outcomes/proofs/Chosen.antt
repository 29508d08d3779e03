-- The entry in which an action stands, by how many each entry has.
use Rattle.std.specs.Prelude.{◌≡◌, ℕ, zero, suc, ◌+◌, ◌-◌, ◌<◌, ◌≤◌, List, [], ◌∷◌, ◌++◌, map, sum, length, take, drop, get_or, slice_get, None, refl}
use Rattle.std.specs.List.{flat_map, fold}
use Rattle.std.proofs.Common.{arith, ap, sym, ◌∙◌, zero-add, set}
use Rattle.std.proofs.lemmas.List.{length-append, drop_more, get_or-map, take_more_set, map_more}

module _ {X : Type 0} where
  pub get_within : (xs ys : List X) (k : ℕ) → k < length xs → slice_get (xs ++ ys) k ≡ slice_get xs k
  get_within [] ys k below = absurd (omega (arith, below))
  get_within (x ∷ xs) ys zero below = refl
  get_within (x ∷ xs) ys (suc k) below = get_within xs ys k (omega (arith, below))

  pub get_past : (xs ys : List X) (k : ℕ) → length xs ≤ k → slice_get (xs ++ ys) k ≡ slice_get ys (k - length xs)
  get_past [] ys k past = let same : k ≡ k - 0 = omega arith in ap (slice_get ys) same
  get_past (x ∷ xs) ys zero past = absurd (omega (arith, past))
  get_past (x ∷ xs) ys (suc k) past = let same : k - length xs ≡ suc k - suc (length xs) = omega arith in get_past xs ys k (omega (arith, past)) ∙ ap (slice_get ys) same

sum_from : (n : ℕ) (xs : List ℕ) → fold ◌+◌ n xs ≡ n + fold ◌+◌ 0 xs
sum_from n [] = omega arith
sum_from n (x ∷ xs) =
    let left = sum_from (n + x) xs in
    let right = sum_from (0 + x) xs in
    omega (arith, left, right)

module _ {A X : Type 0} (f : A → List X) where
  sum_is : (xs : List A) → sum (map (λ x. length (f x)) xs) ≡ length (flat_map f xs)
  sum_is [] = refl
  sum_is (x ∷ xs) =
      sum_from (0 + length (f x)) (map (λ y. length (f y)) xs)
      ∙ ap (λ (n : ℕ). n + fold ◌+◌ 0 (map (λ y. length (f y)) xs)) (zero-add (length (f x)))
      ∙ ap (λ (n : ℕ). length (f x) + n) (sum_is xs)
      ∙ sym (length-append (f x) (flat_map f xs))

  -- the number of all
  pub total_is : (xs : List A) (counts : List ℕ) (total : ℕ) → counts ≡ map (λ x. length (f x)) xs → total ≡ sum counts → total ≡ length (flat_map f xs)
  total_is xs counts total each whole = whole ∙ ap sum each ∙ sum_is xs

  -- where there are none, none is found
  pub none_there : (xs : List A) (counts : List ℕ) (total k : ℕ) → counts ≡ map (λ x. length (f x)) xs → total ≡ sum counts → total ≡ 0 → slice_get (flat_map f xs) k ≡ slice_get [] k
  none_there xs counts total k each whole none = ap (λ ys. slice_get ys k) (nothing (flat_map f xs) (sym (total_is xs counts total each whole) ∙ none)) where
    nothing : (ys : List X) → length ys ≡ 0 → ys ≡ []
    nothing [] e = refl
    nothing (y ∷ ys) e = absurd (omega (arith, e))

  pub count_there : (xs : List A) (counts : List ℕ) (k : ℕ) (d : A) → counts ≡ map (λ x. length (f x)) xs → k < length xs → get_or counts k 0 ≡ length (f (get_or xs k d))
  count_there xs counts k d each below = ap (λ ns. get_or ns k 0) each ∙ get_or-map (λ x. length (f x)) xs k d 0 below

  split : (xs : List A) (k : ℕ) (d : A) → k < length xs → flat_map f (drop k xs) ≡ f (get_or xs k d) ++ flat_map f (drop (k + 1) xs)
  split xs k d below = ap (flat_map f) (drop_more xs k d below)

  pub stands_here : (xs : List A) (k : ℕ) (d : A) (left : ℕ) → k < length xs → left < length (f (get_or xs k d)) → slice_get (f (get_or xs k d)) left ≡ slice_get (flat_map f (drop k xs)) left
  stands_here xs k d left below less = sym (ap (λ ys. slice_get ys left) (split xs k d below) ∙ get_within (f (get_or xs k d)) (flat_map f (drop (k + 1) xs)) left less)

  pub stands_later : (xs : List A) (k : ℕ) (d : A) (left count : ℕ) → k < length xs → count ≡ length (f (get_or xs k d)) → count ≤ left → slice_get (flat_map f (drop (k + 1) xs)) (left - count) ≡ slice_get (flat_map f (drop k xs)) left
  stands_later xs k d left count below is past =
      ap (λ (n : ℕ). slice_get (flat_map f (drop (k + 1) xs)) (left - n)) is
      ∙ sym (ap (λ ys. slice_get ys left) (split xs k d below) ∙ get_past (f (get_or xs k d)) (flat_map f (drop (k + 1) xs)) left (omega (arith, is, past)))

  -- one entry more is counted
  pub counted_next : (xs : List A) (k : ℕ) (d : A) (total next count : ℕ) → k < length xs → count ≡ length (f (get_or xs k d)) → next ≡ total + count → total + length (flat_map f (drop k xs)) ≡ length (flat_map f xs) → next + length (flat_map f (drop (k + 1) xs)) ≡ length (flat_map f xs)
  counted_next xs k d total next count below is after before =
      let here = ap length (split xs k d below) ∙ length-append (f (get_or xs k d)) (flat_map f (drop (k + 1) xs)) in
      omega (arith, here, is, after, before)

  -- and noted
  pub noted_next : (xs : List A) (counts new : List ℕ) (k : ℕ) (d : A) (count : ℕ) → k < length xs → length counts ≡ length xs → count ≡ length (f (get_or xs k d)) → new ≡ set counts k count → take k counts ≡ map (λ x. length (f x)) (take k xs) → take (k + 1) new ≡ map (λ x. length (f x)) (take (k + 1) xs)
  noted_next xs counts new k d count below long is new_is before =
      let within : k < length counts = omega (arith, below, long) in
      ap (take (k + 1)) new_is
      ∙ take_more_set counts k count within
      ∙ (λ i. before i ++ is i ∷ [])
      ∙ sym (map_more (λ x. length (f x)) xs k d below)

-- behind the last place stands nothing
pub stands_nowhere : {A X : Type 0} (f : A → List X) (places : List A) (at left : ℕ) → length places ≤ at → None ≡ slice_get (flat_map f (drop at places)) left
stands_nowhere f [] zero left past = refl
stands_nowhere f [] (suc at) left past = refl
stands_nowhere f (place ∷ places) zero left past = absurd (omega (arith, past))
stands_nowhere f (place ∷ places) (suc at) left past = stands_nowhere f places at left (omega (arith, past))
