-- A fact of each element of a list.
use Rattle.std.specs.Prelude.{◌≡◌, ℕ, zero, suc, ◌+◌, ◌≤◌, ◌==◌, Bool, true, false, cond, List, [], ◌∷◌, ◌++◌, map, filter, find, Some, slice_get, get_or, refl}
use Rattle.std.specs.List.{flat_map}
use Rattle.std.proofs.Common.{arith, ap, ◌∙◌, sym, subst}
use Rattle.std.proofs.lemmas.Bool.Decides.{nat_tests}
use Rattle.io_automata.specs.WellFormed.{times, all_places}

module _ {A : Type 0} where
  abbrev pub Each : (A → Type 0) → List A → Type 0
  Each P [] = Unit {0}
  Each P (x ∷ xs) = P x × Each P xs

  pub each_append : (P : A → Type 0) (xs ys : List A) → Each P xs → Each P ys → Each P (xs ++ ys)
  each_append P [] ys left right = right
  each_append P (x ∷ xs) ys left right = (left.0, each_append P xs ys left.1 right)

  pub each_filter : (P : A → Type 0) (test : A → Bool) (xs : List A) → Each (λ x. test x ≡ true → P x) xs → Each P (filter test xs)
  each_filter P test [] all = tt
  each_filter P test (x ∷ xs) all = go (each_filter P test xs all.1) (test x) refl where
    go : Each P (filter test xs) → (b : Bool) → test x ≡ b → Each P (cond b (x ∷ filter test xs) (filter test xs))
    go rest true passes = (all.0 passes, rest)
    go rest false fails = rest

  pub each_get : (P : A → Type 0) (xs : List A) (k : ℕ) (x : A) → Each P xs → slice_get xs k ≡ Some x → P x
  each_get P [] k x all found = cc
  each_get P (y ∷ ys) zero x all found = let same : y ≡ x = cc in subst P same all.0
  each_get P (y ∷ ys) (suc k) x all found = each_get P ys k x all.1 found

  pub each_weaker : (P Q : A → Type 0) (xs : List A) → ((x : A) → P x → Q x) → Each P xs → Each Q xs
  each_weaker P Q [] weaker all = tt
  each_weaker P Q (x ∷ xs) weaker all = (weaker x all.0, each_weaker P Q xs weaker all.1)

  -- what holds of whatever is got holds of each
  pub each_from : (P : A → Type 0) (xs : List A) → ((k : ℕ) (x : A) → slice_get xs k ≡ Some x → P x) → Each P xs
  each_from P [] all = tt
  each_from P (x ∷ xs) all = (all 0 x refl, each_from P xs (λ k y found. all (suc k) y found))

  pub record IsFoundAt (test : A → Bool) (xs : List A) : Type 0 where
    pub item : A
    pub place : ℕ
    pub found : find test xs ≡ Some item
    pub at : slice_get xs place ≡ Some item
    pub passes : test item ≡ true

  -- where an item passes, one is found
  pub found_at : (test : A → Bool) (xs : List A) (k : ℕ) (x : A) → slice_get xs k ≡ Some x → test x ≡ true → IsFoundAt test xs
  found_at test [] k x at passes = cc
  found_at test (y ∷ ys) k x at passes = go (λ j. found_at test ys j x) (test y) refl k at where
    go : ((j : ℕ) → slice_get ys j ≡ Some x → test x ≡ true → IsFoundAt test ys) → (b : Bool) → test y ≡ b → (k : ℕ) → slice_get (y ∷ ys) k ≡ Some x → IsFoundAt test (y ∷ ys)
    go rest true here k at = record { item = y; place = 0; found = ap (λ c. cond c (Some y) (find test ys)) here; at = refl; passes = here }
    go rest false here zero at = let same : y ≡ x = cc in let both : ◌≡◌ {A = Bool} false true = sym here ∙ ap test same ∙ passes in cc
    go rest false here (suc k) at = let later = rest k at passes in record { item = later.item; place = suc later.place; found = ap (λ c. cond c (Some y) (find test ys)) here ∙ later.found; at = later.at; passes = later.passes }

module _ {A B : Type 0} where
  pub each_map : (P : B → Type 0) (f : A → B) (xs : List A) → Each (λ x. P (f x)) xs → Each P (map f xs)
  each_map P f [] all = tt
  each_map P f (x ∷ xs) all = (all.0, each_map P f xs all.1)

  pub each_flat_map : (P : B → Type 0) (f : A → List B) (xs : List A) → Each (λ x. Each P (f x)) xs → Each P (flat_map f xs)
  each_flat_map P f [] all = tt
  each_flat_map P f (x ∷ xs) all = each_append P (f x) (flat_map f xs) all.0 (each_flat_map P f xs all.1)

same_number : (n : ℕ) → (n == n) ≡ true
same_number n = grind (arith, nat_tests)

-- each number of a list stands there
pub each_stands : (xs : List ℕ) → Each (λ n. 1 ≤ times n xs) xs
each_stands [] = tt
each_stands (x ∷ xs) = (here, each_weaker (λ n. 1 ≤ times n xs) (λ n. 1 ≤ times n (x ∷ xs)) xs later (each_stands xs)) where
  here : 1 ≤ times x (x ∷ xs)
  here = rw (same_number x) (omega arith)

  later : (n : ℕ) → 1 ≤ times n xs → 1 ≤ times n (x ∷ xs)
  later n h = omega (arith, h)

times_append : (n : ℕ) (xs ys : List ℕ) → times n (xs ++ ys) ≡ times n xs + times n ys
times_append n [] ys = omega arith
times_append n (x ∷ xs) ys = let rest = times_append n xs ys in omega (arith, rest)

-- what stands in one task stands in all
pub times_in_task : (n : ℕ) (tasks : List (List ℕ)) (task : ℕ) → times n (get_or tasks task []) ≤ times n (all_places tasks)
times_in_task n [] task = omega arith
times_in_task n (places ∷ tasks) zero = omega (arith, times_append n places (all_places tasks))
times_in_task n (places ∷ tasks) (suc task) = omega (arith, times_append n places (all_places tasks), times_in_task n tasks task)
