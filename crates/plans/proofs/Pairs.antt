-- Two lists compared pair by pair: by their places, by both at once, and by what their items stand for.
use Rattle.std.proofs.Common.{◌≡◌, ℕ, zero, suc, ◌+◌, Bool, ◌&&◌, List, [], ◌∷◌, length, get_or, map, refl, arith, ap, sym, ◌∙◌}
use Rattle.std.specs.List.{list_all, range_with_len, zip}
use lib.Pointwise.{pointwise}

shift : (p : ℕ → Bool) (a n : ℕ) → list_all p (range_with_len (a + 1) n) ≡ list_all (λ i. p (suc i)) (range_with_len a n)
shift p a zero = refl
shift p a (suc n) =
    let e : a + 1 ≡ suc a = omega arith in
    ap (λ k. p k && list_all p (range_with_len (a + 1 + 1) n)) e ∙ ap (λ b. p (suc a) && b) (shift p (a + 1) n)

module _ {X : Type 0} (same : X → X → Bool) where
  -- lists of one length are compared place by place
  pub by_places : (d : X) (xs ys : List X) → length xs ≡ length ys → list_all (λ i. same (get_or xs i d) (get_or ys i d)) (range_with_len 0 (length xs)) ≡ pointwise same xs ys
  by_places d [] [] e = refl
  by_places d [] (y ∷ ys) e = absurd (omega (arith, e))
  by_places d (x ∷ xs) [] e = absurd (omega (arith, e))
  by_places d (x ∷ xs) (y ∷ ys) e =
      let rest : length xs ≡ length ys = omega (arith, e) in
      ap (λ b. same x y && b) (shift (λ i. same (get_or (x ∷ xs) i d) (get_or (y ∷ ys) i d)) 0 (length xs) ∙ by_places d xs ys rest)

  pub by_pairs : (xs ys : List X) → length xs ≡ length ys → list_all (λ (p : X × X). same p.0 p.1) (zip xs ys) ≡ pointwise same xs ys
  by_pairs [] [] e = refl
  by_pairs [] (y ∷ ys) e = absurd (omega (arith, e))
  by_pairs (x ∷ xs) [] e = absurd (omega (arith, e))
  by_pairs (x ∷ xs) (y ∷ ys) e =
      let rest : length xs ≡ length ys = omega (arith, e) in
      ap (λ b. same x y && b) (by_pairs xs ys rest)

module _ {X Y : Type 0} (f : X → Y) (equal : X → X → Bool) (same : Y → Y → Bool) (alike : (a b : X) → equal a b ≡ same (f a) (f b)) where
  pub by_items : (xs ys : List X) → pointwise equal xs ys ≡ pointwise same (map f xs) (map f ys)
  by_items [] [] = refl
  by_items [] (y ∷ ys) = refl
  by_items (x ∷ xs) [] = refl
  by_items (x ∷ xs) (y ∷ ys) = let rest = by_items xs ys in let first = alike x y in λ i. first i && rest i

  pub by_views : (xs ys : List X) (us vs : List Y) → us ≡ map f xs → vs ≡ map f ys → pointwise equal xs ys ≡ pointwise same us vs
  by_views xs ys us vs left right = by_items xs ys ∙ λ i. pointwise same (sym left i) (sym right i)
