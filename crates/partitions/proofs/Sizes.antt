-- How many members a group has, as a sum.
use Rattle.std.specs.Prelude.{sum_by, IsPermutation}
use Rattle.std.proofs.Common.{◌≡◌, ◌<◌, ◌≤◌, ◌+◌, ◌*◌, ◌==◌, ◌++◌, ℕ, List, Bool, true, false, cond, length, take, get_or, replicate, refl, sym, ◌∙◌, ap, arith}
use Rattle.std.proofs.lemmas.Bool.Decides.{nat_tests}
use Rattle.std.proofs.Math.ListN.{set}
use Rattle.std.proofs.lemmas.Grind.{get_or-set_at}
use Rattle.std.proofs.lemmas.List.{length-take-le, get_or-set_other}
use Rattle.std.proofs.lemmas.List.Recursion.{is_count_by}
use Rattle.std.proofs.lemmas.List.Sums.{count_by-le-length, sum_by-cons, sum_by-append, sum_by_more, get_or-le-sum_by}
use Rattle.std.proofs.lemmas.List.Folds.{sum_by-replicate}
use Rattle.std.proofs.lemmas.List.Sorted.{sum_by-IsPermutation}
use Rattle.partitions.specs.Partitions.{size_of}

-- what a component of group g adds to the members of a group
abbrev pub one : ℕ → ℕ → ℕ
one group g = cond (g == group) 1 0

counted : (b : Bool) (n : ℕ) → cond b 1 0 + n ≡ cond b (1 + n) n
counted true n = refl
counted false n = omega arith

pub size_is : (group_of : List ℕ) (group : ℕ) → size_of group_of group ≡ sum_by (one group) group_of
size_is group_of group =
    sym (is_count_by (sum_by (one group)) (λ g. g == group) refl
    (λ g gs. sum_by-cons (one group) g gs ∙ counted (g == group) (sum_by (one group) gs)) group_of)

pub size_permuted : (xs ys : List ℕ) (group : ℕ) → IsPermutation xs ys → size_of ys group ≡ size_of xs group
size_permuted xs ys group p = size_is ys group ∙ sum_by-IsPermutation (one group) xs ys p ∙ sym (size_is xs group)

pub size_dealt : (xs : List ℕ) (many g group : ℕ) → size_of (xs ++ replicate many g) group ≡ size_of xs group + many * one group g
size_dealt xs many g group =
    size_is (xs ++ replicate many g) group ∙ sum_by-append (one group) xs (replicate many g)
    ∙ ap (λ n. sum_by (one group) xs + n) (sum_by-replicate (one group) many g)
    ∙ ap (λ n. n + many * one group g) (sym (size_is xs group))

pub size_more : (xs : List ℕ) (i group : ℕ) → i < length xs → size_of (take (i + 1) xs) group ≡ size_of (take i xs) group + one group (get_or xs i 0)
size_more xs i group h =
    size_is (take (i + 1) xs) group ∙ sum_by_more (one group) xs i 0 h
    ∙ ap (λ n. n + one group (get_or xs i 0)) (sym (size_is (take i xs) group))

pub one_same : (group g : ℕ) → g ≡ group → one group g ≡ 1
one_same group g e = ap (λ b. cond b 1 0) same where
  same : (g == group) ≡ true
  same = grind (arith, nat_tests)

pub one_other : (group g : ℕ) → (g ≡ group → ⊥) → one group g ≡ 0
one_other group g e = ap (λ b. cond b 1 0) other where
  other : (g == group) ≡ false
  other = grind (arith, nat_tests)

pub size_at : (xs : List ℕ) (i group : ℕ) → i < length xs → get_or xs i 0 ≡ group → 0 < size_of xs group
size_at xs i group h e = omega (arith, size_is xs group, get_or-le-sum_by (one group) xs i 0 h, one_same group (get_or xs i 0) e)

pub size_small : (xs : List ℕ) (i group : ℕ) → i ≤ length xs → size_of (take i xs) group ≤ i
size_small xs i group h = omega (arith, count_by-le-length (λ g. g == group) (take i xs), length-take-le i xs h)

-- the counts of so many first components, and of one more
pub sizes_more : (xs sizes : List ℕ) (i groups g : ℕ) → i < length xs → length sizes ≡ groups → get_or xs i 0 < groups → ((k : ℕ) → k < groups → get_or sizes k 0 ≡ size_of (take i xs) k) → g < groups → get_or (set sizes (get_or xs i 0) (get_or sizes (get_or xs i 0) 0 + 1)) g 0 ≡ size_of (take (i + 1) xs) g
sizes_more xs sizes i groups g l long below known within = at (g == get_or xs i 0) refl where
  here : ℕ
  here = get_or xs i 0

  at : (b : Bool) → (g == get_or xs i 0) ≡ b → get_or (set sizes (get_or xs i 0) (get_or sizes (get_or xs i 0) 0 + 1)) g 0 ≡ size_of (take (i + 1) xs) g
  at true e =
      let same : get_or xs i 0 ≡ g = grind (arith, nat_tests) in
      get_or-set_at sizes (get_or xs i 0) g (get_or sizes (get_or xs i 0) 0 + 1) 0 (sym same) (omega (arith, long, below))
      ∙ omega (arith, known (get_or xs i 0) below, ap (λ k. size_of (take i xs) k) same, size_more xs i g l, one_same g (get_or xs i 0) same)
  at false e =
      let other : g ≡ get_or xs i 0 → ⊥ = grind (arith, nat_tests) in
      get_or-set_other sizes (get_or xs i 0) g (get_or sizes (get_or xs i 0) 0 + 1) 0 other
      ∙ omega (arith, known g within, size_more xs i g l, one_other g (get_or xs i 0) (λ s. other (sym s)))
