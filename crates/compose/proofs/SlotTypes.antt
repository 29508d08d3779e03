-- The types of two entries, parameter by parameter.
use Rattle.std.proofs.Common.{arith, ◌≡◌, ◌<◌, ◌≤◌, ◌+◌, ◌-◌, ◌⊎◌, inl, inr, ℕ, suc, Bool, true, false, ◌&&◌, nat_eq, List, [], ◌∷◌, get_or, length, drop, map, Option, None, Some, slice_get, refl, sym, ◌∙◌, ap, ap₂}
use Rattle.std.proofs.Math.ListN.{drop_of_length-le}
use Rattle.std.proofs.lemmas.Bool.Decides.{nat_tests}
use Rattle.std.proofs.lemmas.List.{length-drop}
use Rattle.std.proofs.lemmas.Option.{slice_get_within, get_or_from_slice_get, slice_get_cases}
use Rattle.ioa_trees.specs.Kinds.{Kind}
use Rattle.compose.specs.Types.{same_kind, same_kinds}
use Rattle.compose.proofs.Steps.{drop_at}

past : {A : Type 0} (ys : List A) (n : ℕ) → slice_get ys n ≡ None → length ys ≤ n
past {A = A} ys n h = by (slice_get_cases ys n).1
  where
    by : ((x : A) × (n < length ys) × (slice_get ys n ≡ Some x) × (get_or ys n x ≡ x)) ⊎ ((length ys ≤ n) × (slice_get ys n ≡ None)) → length ys ≤ n
    by (inl c) = let some = c.2 in absurd (cc)
    by (inr c) = c.0

equal_lengths : (m n : ℕ) → m ≡ n → nat_eq m n ≡ true
equal_lengths m n h = grind (arith, nat_tests)

other_lengths : (m n k : ℕ) → n ≡ m + suc k → nat_eq m n ≡ false
other_lengths m n k h = grind (arith, nat_tests)

module _ {A B : Type 0} (t : A → B) (f g : B → Option Kind) (xs ys : List A) (n : ℕ) (whole : Bool) where
  -- what is left of both lists
  abbrev pub left_same : Bool
  left_same = same_kinds (map f (map t (drop n xs))) (map g (map t (drop n ys)))

  begins : (x y : A) → x ≡ get_or xs n x → n < length xs → slice_get ys n ≡ Some y
      → left_same ≡ (same_kind (f (t x)) (g (t y)) && same_kinds (map f (map t (drop (n + 1) xs))) (map g (map t (drop (n + 1) ys))))
  begins x y is low other =
      let within : n < length ys = slice_get_within ys n y other in
      let own : y ≡ get_or ys n y = sym (get_or_from_slice_get ys n y y other) in
      ap₂ (λ zs ws. same_kinds (map f (map t zs)) (map g (map t ws))) (drop_at xs n x is low) (drop_at ys n y own within)

  -- two parameters of one type
  pub same_on : (x y : A) → x ≡ get_or xs n x → n < length xs → slice_get ys n ≡ Some y → same_kind (f (t x)) (g (t y)) ≡ true → left_same ≡ whole
      → same_kinds (map f (map t (drop (n + 1) xs))) (map g (map t (drop (n + 1) ys))) ≡ whole
  same_on x y is low other one h = ap (λ (b : Bool). b && same_kinds (map f (map t (drop (n + 1) xs))) (map g (map t (drop (n + 1) ys)))) (sym one) ∙ sym (begins x y is low other) ∙ h

  -- two of other types
  pub same_ends : (x y : A) → x ≡ get_or xs n x → n < length xs → slice_get ys n ≡ Some y → same_kind (f (t x)) (g (t y)) ≡ false → left_same ≡ whole → false ≡ whole
  same_ends x y is low other one h = ap (λ (b : Bool). b && same_kinds (map f (map t (drop (n + 1) xs))) (map g (map t (drop (n + 1) ys)))) (sym one) ∙ sym (begins x y is low other) ∙ h

  -- the second list has no more
  pub same_short : (x : A) → x ≡ get_or xs n x → n < length xs → slice_get ys n ≡ None → left_same ≡ whole → false ≡ whole
  same_short x is low none h = sym (ap₂ (λ zs ws. same_kinds (map f (map t zs)) (map g (map t ws))) (drop_at xs n x is low) (drop_of_length-le ys (past ys n none))) ∙ h

  -- the first has no more
  pub same_at_end : length xs ≤ n → n ≤ length xs → n ≤ length ys → left_same ≡ whole → nat_eq (length xs) (length ys) ≡ whole
  same_at_end done low within h = by (drop n ys) refl ∙ sym (ap (λ zs. same_kinds (map f (map t zs)) (map g (map t (drop n ys)))) (drop_of_length-le xs done)) ∙ h
    where
      by : (zs : List A) → drop n ys ≡ zs → nat_eq (length xs) (length ys) ≡ same_kinds [] (map g (map t zs))
      by [] e =
          let left : length ys - n ≡ 0 = sym (length-drop n ys) ∙ ap length e in
          equal_lengths (length xs) (length ys) (omega (arith, left, done, low, within))
      by (z ∷ zs) e =
          let left : length ys - n ≡ suc (length zs) = sym (length-drop n ys) ∙ ap length e in
          other_lengths (length xs) (length ys) (length zs) (omega (arith, left, done, low, within))
