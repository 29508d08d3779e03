-- Numbers in a row.
use Rattle.std.proofs.Common.{◌≡◌, ◌<◌, ◌+◌, ◌++◌, ℕ, List, [], ◌∷◌, Bool, cond, map, filter, get_or, refl, sym, ◌∙◌, ap, arith}
use Rattle.std.specs.List.{range_with_len}
use Rattle.std.proofs.lemmas.List.Elements.{All-from_get_or}
use Rattle.std.proofs.lemmas.List.FromFn.{length-range_with_len, get_or-range_with_len, map-range_with_len_more, filter_of_map_range_with_len_more}
use Rattle.partitions.specs.Partitions.{IsPartition}
use Rattle.partitions.proofs.Sizes.{size_at}

same_map : (xs : List ℕ) → map (λ x. x) xs ≡ xs
same_map [] = refl
same_map (x ∷ xs) = ap (λ ys. x ∷ ys) (same_map xs)

pub range_more : (n : ℕ) → range_with_len 0 (n + 1) ≡ range_with_len 0 n ++ n ∷ []
range_more n =
    sym (same_map (range_with_len 0 (n + 1))) ∙ map-range_with_len_more (λ x. x) 0 n n (omega arith)
    ∙ ap (λ xs. xs ++ n ∷ []) (same_map (range_with_len 0 n))

pub filter_range_more : (p : ℕ → Bool) (n : ℕ) → filter p (range_with_len 0 (n + 1)) ≡ filter p (range_with_len 0 n) ++ cond (p n) (n ∷ []) []
filter_range_more p n =
    ap (filter p) (sym (same_map (range_with_len 0 (n + 1)))) ∙ filter_of_map_range_with_len_more p (λ x. x) 0 n n (omega arith)
    ∙ ap (λ xs. filter p xs ++ cond (p n) (n ∷ []) []) (same_map (range_with_len 0 n))

pub numbers_partition : (n : ℕ) → IsPartition n n (range_with_len 0 n)
numbers_partition n = record {
  every = length-range_with_len 0 n;
  below = All-from_get_or (λ g. g < n) (range_with_len 0 n) 0 (λ i l. at i (omega (arith, l, length-range_with_len 0 n)));
  filled = λ g l. size_at (range_with_len 0 n) g g (omega (arith, l, length-range_with_len 0 n)) (get_or-range_with_len 0 n g 0 l ∙ omega arith);
} where
  at : (i : ℕ) → i < n → get_or (range_with_len 0 n) i 0 < n
  at i l = omega (arith, l, get_or-range_with_len 0 n i 0 l)
