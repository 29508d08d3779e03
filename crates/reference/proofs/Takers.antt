-- Components take an action one after another.
use Rattle.std.proofs.Common.{◌≡◌, ℕ, zero, suc, ◌+◌, ◌<◌, ◌⊎◌, inl, inr, Bool, true, false, Option, None, Some, List, [], ◌∷◌, length, take, refl, ap, sym, subst, ◌∙◌, arith}
use Rattle.std.specs.Prelude.{cond, ◌||◌, ◌==◌, slice_get, slice_set, slice_index, slice_index_or, option_map}
use Rattle.std.proofs.lemmas.Bool.{cases_eq, eq-eqb, ne_eqb}
use Rattle.std.proofs.lemmas.Option.{slice_get-get_or}
use Rattle.terms.specs.Named.{Named}
use Rattle.undo_records.specs.States.{States, undone}
use Rattle.io_automata.specs.Automata.{Instance}
use Rattle.io_automata.specs.Receivers.{IsIn}
use Rattle.reference.specs.Taking.{Distinct, IsPassed, AreMarked, changed, other_than, reaching, received}

pub get_same : {X : Type 0} (xs : List X) (n : ℕ) (x : X) → n < length xs → slice_get (slice_set xs n x) n ≡ Some x
get_same [] n x h = absurd (omega (arith, h))
get_same (y ∷ ys) zero x h = refl
get_same (y ∷ ys) (suc n) x h = get_same ys n x (omega (arith, h))

pub get_other : {X : Type 0} (xs : List X) (n : ℕ) (x : X) (j : ℕ) → (j ≡ n → ⊥) → slice_get (slice_set xs n x) j ≡ slice_get xs j
get_other [] n x j ne = refl
get_other (y ∷ ys) zero x zero ne = absurd (ne refl)
get_other (y ∷ ys) zero x (suc j) ne = refl
get_other (y ∷ ys) (suc n) x zero ne = refl
get_other (y ∷ ys) (suc n) x (suc j) ne = get_other ys n x j (λ e. ne (ap suc e))

pub slice_set-length : {X : Type 0} (xs : List X) (n : ℕ) (x : X) → length (slice_set xs n x) ≡ length xs
slice_set-length [] n x = refl
slice_set-length (y ∷ ys) zero x = refl
slice_set-length (y ∷ ys) (suc n) x = ap suc (slice_set-length ys n x)

-- what is there already is put in a place
set_same : {X : Type 0} (xs : List X) (n : ℕ) (x : X) → slice_get xs n ≡ Some x → slice_set xs n x ≡ xs
set_same [] n x h = refl
set_same (y ∷ ys) zero x h = let same : y ≡ x = cc in ap (λ z. z ∷ ys) (sym same)
set_same (y ∷ ys) (suc n) x h = ap (λ l. y ∷ l) (set_same ys n x h)

pub same_lists : {X : Type 0} (xs ys : List X) → ((j : ℕ) → slice_get xs j ≡ slice_get ys j) → xs ≡ ys
same_lists [] [] h = refl
same_lists [] (y ∷ ys) h = let none : None ≡ Some y = h 0 in cc
same_lists (x ∷ xs) [] h = let none : Some x ≡ None = h 0 in cc
same_lists (x ∷ xs) (y ∷ ys) h =
    let first : Some x ≡ Some y = h 0 in
    let same : x ≡ y = cc in
    let rest = same_lists xs ys (λ j. h (suc j)) in
    λ i. same i ∷ rest i

pub in_at : (ts : List ℕ) (k : ℕ) → k < length ts → IsIn (slice_index ts k) ts ≡ true
in_at [] k h = absurd (omega (arith, h))
in_at (t ∷ ts) zero h = ap (λ b. b || IsIn t ts) (eq-eqb t t refl)
in_at (t ∷ ts) (suc k) h = go (slice_index ts k == t) (in_at ts k (omega (arith, h))) where
  go : (b : Bool) → IsIn (slice_index ts k) ts ≡ true → (b || IsIn (slice_index ts k) ts) ≡ true
  go true later = refl
  go false later = later

-- one that is reached was not there before
fresh : (ts : List ℕ) (k : ℕ) → Distinct ts → k < length ts → IsIn (slice_index ts k) (take k ts) ≡ false
fresh [] k once h = absurd (omega (arith, h))
fresh (t ∷ ts) zero once h = refl
fresh (t ∷ ts) (suc k) once h = ap (λ b. b || IsIn x (take k ts)) (ne_eqb x t apart) ∙ fresh ts k once.1 (omega (arith, h)) where
  x : ℕ
  x = slice_index ts k

  apart : x ≡ t → ⊥
  apart e =
      let there : IsIn x ts ≡ true = in_at ts k (omega (arith, h)) in
      let gone : IsIn x ts ≡ false = subst (λ y. IsIn y ts ≡ false) (sym e) once.0 in
      cc

pub in_more : (j : ℕ) (ts : List ℕ) (k : ℕ) → k < length ts → IsIn j (take (suc k) ts) ≡ (IsIn j (take k ts) || (j == slice_index ts k))
in_more j [] k h = absurd (omega (arith, h))
in_more j (t ∷ ts) zero h = go (j == t) where
  go : (b : Bool) → (b || false) ≡ b
  go true = refl
  go false = refl
in_more j (t ∷ ts) (suc k) h = ap (λ b. (j == t) || b) (in_more j ts k (omega (arith, h))) ∙ go (j == t) (IsIn j (take k ts)) (j == slice_index ts k) where
  go : (a b c : Bool) → (a || (b || c)) ≡ ((a || b) || c)
  go true b c = refl
  go false b c = refl

-- those before a place are among all
in_take : (j : ℕ) (ts : List ℕ) (k : ℕ) → IsIn j (take k ts) ≡ true → IsIn j ts ≡ true
in_take j [] zero h = h
in_take j [] (suc k) h = h
in_take j (t ∷ ts) zero h = let out : ◌≡◌ {A = Bool} false true = h in cc
in_take j (t ∷ ts) (suc k) h = go (j == t) (in_take j ts k) h where
  go : (b : Bool) → (IsIn j (take k ts) ≡ true → IsIn j ts ≡ true) → (b || IsIn j (take k ts)) ≡ true → (b || IsIn j ts) ≡ true
  go true later g = refl
  go false later g = later g

pub distinct_take : (ts : List ℕ) (k : ℕ) → Distinct ts → Distinct (take k ts)
distinct_take [] zero once = tt
distinct_take [] (suc k) once = tt
distinct_take (t ∷ ts) zero once = tt
distinct_take (t ∷ ts) (suc k) once = (go (IsIn t (take k ts)) refl, distinct_take ts k once.1) where
  go : (b : Bool) → IsIn t (take k ts) ≡ b → b ≡ false
  go false e = refl
  go true e = let there : IsIn t ts ≡ true = in_take t ts k e in let gone : ◌≡◌ {A = Bool} false true = sym once.0 ∙ there in cc

pub first_within : (ts : List ℕ) (k many news : ℕ) → ((j : ℕ) → IsIn j ts ≡ true → j < many) → news ≡ many → (j : ℕ) → IsIn j (take k ts) ≡ true → j < news
first_within ts k many news within same j h = let w = within j (in_take j ts k h) in omega (arith, w, same)

-- the first k of these made a change, and the next one is n
module _ (change : ℕ → States → States) (ts : List ℕ) (once : Distinct ts) (olds nows : List States) (k n : ℕ) (n_is : n ≡ slice_index ts k) (before : k < length ts)
    (within : (j : ℕ) → IsIn j ts ≡ true → j < length olds) (passed : IsPassed change (take k ts) olds nows) where
  n_in : IsIn n ts ≡ true
  n_in = subst (λ m. IsIn m ts ≡ true) (sym n_is) (in_at ts k before)

  pub short : n < length nows
  short = let many = passed.many in let w = within n n_in in omega (arith, many, w)

  n_fresh : IsIn n (take k ts) ≡ false
  n_fresh = subst (λ m. IsIn m (take k ts) ≡ false) (sym n_is) (fresh ts k once before)

  untouched : slice_get nows n ≡ slice_get olds n
  untouched = passed.each n ∙ ap (λ b. option_map (λ s. cond b (change n s) s) (slice_get olds n)) n_fresh ∙ go (slice_get olds n) where
    go : (o : Option States) → option_map (λ s. s) o ≡ o
    go None = refl
    go (Some s) = refl

  there : (d : States) → slice_get nows n ≡ Some (slice_index_or nows n d)
  there d = slice_get-get_or nows n d short

  -- its state is as it was
  pub as_was : (d : States) → slice_get olds n ≡ Some (slice_index_or nows n d)
  as_was d = sym untouched ∙ there d

  pub marked_here : (d : States) (i : ℕ) → AreMarked i ts olds → (n ≡ i → ⊥) → 0 < length (slice_index_or nows n d).below
  marked_here d i marked other = marked n (slice_index_or nows n d) n_in other (as_was d)

  pub one_more : (d new : States) → new ≡ change n (slice_index_or nows n d) → IsPassed change (take (k + 1) ts) olds (slice_set nows n new)
  one_more d new new_is = record { many = slice_set-length nows n new ∙ passed.many; each = each } where
    more : take (k + 1) ts ≡ take (suc k) ts
    more = let e : k + 1 ≡ suc k = omega arith in ap (λ m. take m ts) e

    in_next : (j : ℕ) → IsIn j (take (k + 1) ts) ≡ (IsIn j (take k ts) || (j == n))
    in_next j = ap (IsIn j) more ∙ in_more j ts k before ∙ ap (λ m. IsIn j (take k ts) || (j == m)) (sym n_is)

    own : IsIn n (take (k + 1) ts) ≡ true
    own = in_next n ∙ ap (λ b. b || (n == n)) n_fresh ∙ eq-eqb n n refl

    drops : (b : Bool) → (b || false) ≡ b
    drops true = refl
    drops false = refl

    other : (j : ℕ) → (j ≡ n → ⊥) → IsIn j (take (k + 1) ts) ≡ IsIn j (take k ts)
    other j ne = in_next j ∙ ap (λ b. IsIn j (take k ts) || b) (ne_eqb j n ne) ∙ drops (IsIn j (take k ts))

    here : slice_get (slice_set nows n new) n ≡ option_map (changed change (take (k + 1) ts) n) (slice_get olds n)
    here =
        get_same nows n new short ∙ ap (λ s. Some s) new_is
        ∙ sym (ap (option_map (changed change (take (k + 1) ts) n)) (as_was d) ∙ ap (λ b. Some (cond b (change n (slice_index_or nows n d)) (slice_index_or nows n d))) own)

    each : (j : ℕ) → slice_get (slice_set nows n new) j ≡ option_map (changed change (take (k + 1) ts) j) (slice_get olds j)
    each j = go (cases_eq j n) where
      go : (j ≡ n) ⊎ (j ≡ n → ⊥) → slice_get (slice_set nows n new) j ≡ option_map (changed change (take (k + 1) ts) j) (slice_get olds j)
      go (inl e) = subst (λ m. slice_get (slice_set nows n new) m ≡ option_map (changed change (take (k + 1) ts) m) (slice_get olds m)) (sym e) here
      go (inr ne) = get_other nows n new j ne ∙ passed.each j ∙ ap (λ b. option_map (λ s. cond b (change j s) s) (slice_get olds j)) (sym (other j ne))

-- a component that refused is as it was, and the marks of those before it are undone
pub gone_back : (c : List Instance) (i : ℕ) (a : Named) (ts : List ℕ) (olds nows news : List States) (n : ℕ) (d back : States) → n < length nows → back ≡ slice_index_or nows n d
    → IsPassed (reaching c i a) ts olds nows → IsPassed (other_than i undone) ts (slice_set nows n back) news → news ≡ olds
gone_back c i a ts olds nows news n d back short back_is marked unmarked = same_lists news olds each where
  same : slice_set nows n back ≡ nows
  same = set_same nows n back (slice_get-get_or nows n d short ∙ ap (λ s. Some s) (sym back_is))

  undo_mark : (j : ℕ) (b own : Bool) (o : Option States) → option_map (λ s. cond b (cond own s (undone s)) s) (option_map (λ s. cond b (cond own s (record { current = received c a j s.current; below = s.current ∷ s.below })) s) o) ≡ o
  undo_mark j b own None = refl
  undo_mark j true true (Some s) = refl
  undo_mark j true false (Some s) = refl
  undo_mark j false own (Some s) = refl

  each : (j : ℕ) → slice_get news j ≡ slice_get olds j
  each j =
      unmarked.each j ∙ ap (λ l. option_map (changed (other_than i undone) ts j) (slice_get l j)) same
      ∙ ap (option_map (changed (other_than i undone) ts j)) (marked.each j) ∙ undo_mark j (IsIn j ts) (j == i) (slice_get olds j)
