-- The search finds the first entry that differs from an earlier one of its name.
use Rattle.std.proofs.Common.{◌≡◌, ◌⊎◌, inl, inr, ℕ, Bool, true, false, not, bytes_eq, cond, List, [], ◌∷◌, ◌++◌, Option, None, Some, refl, sym, ◌∙◌, ap, subst}
use Rattle.std.proofs.lemmas.Slice.Eq.{bytes_eq-Decides}
use Rattle.ioa_trees.specs.Trees.{Bytes}
use Rattle.compose.specs.Types.{same_kinds}
use Rattle.compose.specs.TypedStandings.{Stood, first_of, differs, first_different, or_this}
use Rattle.compose.proofs.ListItems.{In, in_either}
use Rattle.compose.proofs.SameKinds.{kinds_are}

-- the first of a name, with one more entry
pub first_more : (q : Bytes) (xs : List Stood) (s : Stood) → first_of q (xs ++ s ∷ []) ≡ or_this (first_of q xs) q s
first_more q [] s = refl
first_more q (x ∷ xs) s = by (bytes_eq q x.name) (first_more q xs s)
  where
    by : (b : Bool) → first_of q (xs ++ s ∷ []) ≡ or_this (first_of q xs) q s → cond b (Some x) (first_of q (xs ++ s ∷ [])) ≡ or_this (cond b (Some x) (first_of q xs)) q s
    by true h = refl
    by false h = h

-- the first of a name is one of the list, of this name
pub first_in : (q : Bytes) (xs : List Stood) (f : Stood) → first_of q xs ≡ Some f → In f xs × (bytes_eq q f.name ≡ true)
first_in q [] f h = cc
first_in q (x ∷ xs) f h = by (bytes_eq q x.name) refl (λ i. first_in q xs f i) h
  where
    later : In f xs × (bytes_eq q f.name ≡ true) → In f (x ∷ xs) × (bytes_eq q f.name ≡ true)
    later p = (inr p.0, p.1)

    by : (b : Bool) → bytes_eq q x.name ≡ b → (first_of q xs ≡ Some f → In f xs × (bytes_eq q f.name ≡ true)) → cond b (Some x) (first_of q xs) ≡ Some f → In f (x ∷ xs) × (bytes_eq q f.name ≡ true)
    by true e g i = let same : x ≡ f = cc in (inl same, ap (λ (z : Stood). bytes_eq q z.name) (sym same) ∙ e)
    by false e g i = later (g i)

-- an entry has the types of the first of its name
abbrev pub Agrees : Option Stood → Stood → Type 0
Agrees None s = ⊥
Agrees (Some f) s = f.kinds ≡ s.kinds

abbrev pub AllAgree : List Stood → Type 0
AllAgree xs = (s : Stood) → In s xs → Agrees (first_of s.name xs) s

agrees_more : (f : Option Stood) (q : Bytes) (s x : Stood) → Agrees f x → Agrees (or_this f q s) x
agrees_more None q s x h = absurd h
agrees_more (Some f) q s x h = h

agrees_new : (f : Option Stood) (s : Stood) → differs f s ≡ false → Agrees (or_this f s.name s) s
agrees_new None s h = subst (λ (b : Bool). Agrees (cond b (Some s) None) s) (sym ((bytes_eq-Decides s.name s.name).1 refl)) refl
agrees_new (Some f) s h = kinds_are f.kinds s.kinds (by (same_kinds f.kinds s.kinds) h)
  where
    by : (b : Bool) → not b ≡ false → b ≡ true
    by true h = refl
    by false h = cc

-- one more entry that doesn't differ
agree_more : (xs : List Stood) (s : Stood) → AllAgree xs → differs (first_of s.name xs) s ≡ false → AllAgree (xs ++ s ∷ [])
agree_more xs s all h = λ x i. subst (λ (f : Option Stood). Agrees f x) (sym (first_more x.name xs s)) (by x (in_either x xs (s ∷ []) i))
  where
    by : (x : Stood) → In x xs ⊎ In x (s ∷ []) → Agrees (or_this (first_of x.name xs) x.name s) x
    by x (inl i) = agrees_more (first_of x.name xs) x.name s x (all x i)
    by x (inr (inl i)) = subst (λ (z : Stood). Agrees (or_this (first_of z.name xs) z.name s) z) i (agrees_new (first_of s.name xs) s h)
    by x (inr (inr i)) = absurd i

-- where all agree, two of one name do
pub one_type : (xs : List Stood) → AllAgree xs → (x y : Stood) → In x xs → In y xs → bytes_eq x.name y.name ≡ true → x.kinds ≡ y.kinds
one_type xs all x y i j h = by (first_of x.name xs) (all x i) (subst (λ (q : Bytes). Agrees (first_of q xs) y) (sym ((bytes_eq-Decides x.name y.name).0 h)) (all y j))
  where
    by : (f : Option Stood) → Agrees f x → Agrees f y → x.kinds ≡ y.kinds
    by None p q = absurd p
    by (Some f) p q = sym p ∙ q

-- A list goes on with entries that all agree, and one that differs from an earlier one.
pub record IsFirstDifferent (before rest : List Stood) (component : ℕ) : Type 0 where
  pub early : List Stood
  pub last : Stood
  pub after : List Stood
  pub split : rest ≡ early ++ last ∷ after
  pub agree : AllAgree (before ++ early)
  pub first : Stood
  pub is_first : first_of last.name (before ++ early) ≡ Some first
  pub differ : same_kinds first.kinds last.kinds ≡ false
  pub is : last.component ≡ component

abbrev pub IsFound : List Stood → List Stood → Option ℕ → Type 0
IsFound before rest None = AllAgree (before ++ rest)
IsFound before rest (Some j) = IsFirstDifferent before rest j

nothing_left : (xs : List Stood) → xs ++ [] ≡ xs
nothing_left [] = refl
nothing_left (x ∷ xs) = ap (λ ys. x ∷ ys) (nothing_left xs)

regrouped : (xs : List Stood) (s : Stood) (ys : List Stood) → (xs ++ s ∷ []) ++ ys ≡ xs ++ s ∷ ys
regrouped [] s ys = refl
regrouped (x ∷ xs) s ys = ap (λ zs. x ∷ zs) (regrouped xs s ys)

found_later : (before : List Stood) (s : Stood) (rest : List Stood) (o : Option ℕ) → IsFound (before ++ s ∷ []) rest o → IsFound before (s ∷ rest) o
found_later before s rest None h = subst (λ xs. AllAgree xs) (regrouped before s rest) h
found_later before s rest (Some j) h = record {
  early = s ∷ h.early;
  last = h.last;
  after = h.after;
  split = ap (λ xs. s ∷ xs) h.split;
  agree = subst (λ xs. AllAgree xs) (regrouped before s h.early) h.agree;
  first = h.first;
  is_first = subst (λ xs. first_of h.last.name xs ≡ Some h.first) (regrouped before s h.early) h.is_first;
  differ = h.differ;
  is = h.is;
}

found_here : (before : List Stood) (s : Stood) (rest : List Stood) → AllAgree before → differs (first_of s.name before) s ≡ true → IsFirstDifferent before (s ∷ rest) s.component
found_here before s rest all h = by (first_of s.name before) refl h
  where
    known : (b : Bool) → not b ≡ true → b ≡ false
    known true i = cc
    known false i = refl

    by : (f : Option Stood) → first_of s.name before ≡ f → differs f s ≡ true → IsFirstDifferent before (s ∷ rest) s.component
    by None e i = cc
    by (Some f) e i = record {
      early = [];
      last = s;
      after = rest;
      split = refl;
      agree = subst (λ xs. AllAgree xs) (sym (nothing_left before)) all;
      first = f;
      is_first = ap (λ xs. first_of s.name xs) (nothing_left before) ∙ e;
      differ = known (same_kinds f.kinds s.kinds) i;
      is = refl;
    }

pub found : (before rest : List Stood) → AllAgree before → IsFound before rest (first_different before rest)
found before [] all = subst (λ xs. AllAgree xs) (sym (nothing_left before)) all
found before (s ∷ rest) all = by (differs (first_of s.name before) s) refl (λ a. found (before ++ s ∷ []) rest a)
  where
    by : (b : Bool) → differs (first_of s.name before) s ≡ b → (AllAgree (before ++ s ∷ []) → IsFound (before ++ s ∷ []) rest (first_different (before ++ s ∷ []) rest))
        → IsFound before (s ∷ rest) (cond b (Some s.component) (first_different (before ++ s ∷ []) rest))
    by true e g = found_here before s rest all e
    by false e g = found_later before s rest (first_different (before ++ s ∷ []) rest) (g (agree_more before s all e))
