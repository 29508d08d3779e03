-- The first item of a line, and a test.
use Rattle.std.proofs.Common.{◌≡◌, refl, sym, ◌∙◌, ap, ◌==◌, Bool, true, false, List, [], ◌∷◌, ◌++◌, length, slice_index_or, Some, if◌then◌else◌, not, arith}
use Rattle.raw_events.specs.Around.{first_where, without_where, first_fails}

module _ {T : Type 0} (p : T → Bool) where
  pub first_told : (xs : List T) (x : T) (b : Bool) → (length xs == 0) ≡ false → x ≡ slice_index_or xs 0 x → b ≡ p x → not b ≡ first_fails p xs
  first_told [] x b l e f = cc
  first_told (y ∷ ys) x b l e f = ap not (f ∙ ap p e)

  fails : (b : Bool) → not b ≡ true → b ≡ false
  fails true e = sym e
  fails false e = refl

  passes : (b : Bool) → not b ≡ false → b ≡ true
  passes true e = refl
  passes false e = sym e

  -- one that fails is passed
  pub passed_one : (xs one ys : List T) → first_fails p xs ≡ true → xs ≡ one ++ ys → length one ≡ 1 → (without_where p xs ≡ one ++ without_where p ys) × (first_where p xs ≡ first_where p ys)
  passed_one xs [] ys f e l = absurd (omega arith)
  passed_one xs (x ∷ []) ys f e l =
      let no : p x ≡ false = fails (p x) (ap (first_fails p) (sym e) ∙ f) in
      (ap (without_where p) e ∙ ap (λ b. if b then ys else x ∷ without_where p ys) no, ap (first_where p) e ∙ ap (λ b. if b then Some x else first_where p ys) no)
  passed_one xs (x ∷ z ∷ zs) ys f e l = absurd (omega arith)

  -- one that passes is taken
  pub taken_one : (xs one ys : List T) (x : T) → first_fails p xs ≡ false → xs ≡ one ++ ys → one ≡ x ∷ [] → (Some x ≡ first_where p xs) × (ys ≡ without_where p xs)
  taken_one xs one ys x f e o =
      let at : xs ≡ x ∷ ys = e ∙ ap (λ zs. zs ++ ys) o in
      let yes : p x ≡ true = passes (p x) (ap (first_fails p) (sym at) ∙ f) in
      (sym (ap (first_where p) at ∙ ap (λ b. if b then Some x else first_where p ys) yes), sym (ap (without_where p) at ∙ ap (λ b. if b then ys else x ∷ without_where p ys) yes))
