-- What stays where groups are dealt out anew, and groups that are dealt out in blocks.
use Rattle.std.specs.Prelude.{All, IsPermutation}
use Rattle.std.proofs.Common.{◌≡◌, ◌<◌, ◌≤◌, ◌+◌, ◌*◌, ◌/◌, ◌%◌, ◌++◌, ◌⊎◌, inl, inr, ℕ, zero, suc, List, [], Bool, true, false, cond, nat_lt, length, replicate, refl, sym, ◌∙◌, ap, subst, arith}
use Rattle.std.proofs.Math.Nat.{mul-suc, mul_comm, div-add-mod, mod-lt}
use Rattle.std.proofs.Math.Numerals.{add-one}
use Rattle.std.proofs.lemmas.Bool.{ltb-true, ltb-false}
use Rattle.std.proofs.lemmas.List.{length-append, length-replicate}
use Rattle.std.proofs.lemmas.List.Elements.{All-nil, All-append, All-replicate}
use Rattle.std.proofs.lemmas.List.Sorted.{All-permutation, length_permutation}
use Rattle.partitions.specs.Partitions.{size_of, block_size, IsPartition, AreEven}
use Rattle.partitions.proofs.Sizes.{one, one_same, one_other, size_permuted, size_dealt}

pub partition_kept : (n k : ℕ) (xs ys : List ℕ) → IsPermutation xs ys → IsPartition n k xs → IsPartition n k ys
partition_kept n k xs ys p h = record {
  every = length_permutation xs ys p ∙ h.every;
  below = All-permutation (λ g. g < k) xs ys p h.below;
  filled = λ g l. omega (arith, size_permuted xs ys g p, h.filled g l);
}

pub even_kept : (k : ℕ) (xs ys : List ℕ) → IsPermutation xs ys → AreEven k xs → AreEven k ys
even_kept k xs ys p h = record {
  least = λ g l. rw (length_permutation xs ys p) (omega (arith, size_permuted xs ys g p, h.least g l));
  most = λ g l. rw (length_permutation xs ys p) (omega (arith, size_permuted xs ys g p, h.most g l));
}

-- So many first groups are dealt out.
pub record IsDealt (least greater k : ℕ) (xs : List ℕ) : Type 0 where
  pub early : k ≤ greater → length xs ≡ least * k + k
  pub late : greater ≤ k → length xs ≡ least * k + greater
  pub below : All (λ g. g < k) xs
  pub size : (g : ℕ) → g < k → size_of xs g ≡ block_size least greater g
  pub rest : (g : ℕ) → k ≤ g → size_of xs g ≡ 0

pub none_dealt : (least greater : ℕ) → IsDealt least greater 0 []
none_dealt least greater = record {
  early = λ _. zeros least 0 refl;
  late = λ h. zeros least greater (omega (arith, h));
  below = All-nil (λ g. g < 0);
  size = λ g h. absurd (omega (arith, h));
  rest = λ g h. refl;
} where
  zeros : (n m : ℕ) → m ≡ 0 → 0 ≡ n * 0 + m
  zeros n m h = omega (arith, h)

more : (least k : ℕ) → least * (k + 1) ≡ least * k + least
more least k = ap (λ n. least * n) (add-one k) ∙ mul-suc least k

block_early : (least greater k : ℕ) → k < greater → block_size least greater k ≡ least + 1
block_early least greater k h = at (nat_lt k greater) refl where
  at : (b : Bool) → nat_lt k greater ≡ b → cond b (least + 1) least ≡ least + 1
  at true e = refl
  at false e = absurd (omega (arith, h, ltb-false k greater e))

block_late : (least greater k : ℕ) → greater ≤ k → block_size least greater k ≡ least
block_late least greater k h = at (nat_lt k greater) refl where
  at : (b : Bool) → nat_lt k greater ≡ b → cond b (least + 1) least ≡ least
  at true e = absurd (omega (arith, h, ltb-true k greater e))
  at false e = refl

longer : (xs : List ℕ) (many k : ℕ) → length (xs ++ replicate many k) ≡ length xs + many
longer xs many k = length-append xs (replicate many k) ∙ ap (λ n. length xs + n) (length-replicate many k)

size_here : (xs : List ℕ) (many k : ℕ) → size_of xs k ≡ 0 → size_of (xs ++ replicate many k) k ≡ many
size_here xs many k h = size_dealt xs many k k ∙ at (one k k) (one_same k k refl) where
  at : (n : ℕ) → n ≡ 1 → size_of xs k + many * n ≡ many
  at n e = subst (λ m. size_of xs k + many * m ≡ many) (sym e) (omega (arith, h))

size_there : (xs : List ℕ) (many k g : ℕ) → (k ≡ g → ⊥) → size_of (xs ++ replicate many k) g ≡ size_of xs g
size_there xs many k g h = size_dealt xs many k g ∙ at (one g k) (one_other g k h) where
  at : (n : ℕ) → n ≡ 0 → size_of xs g + many * n ≡ size_of xs g
  at n e = subst (λ m. size_of xs g + many * m ≡ size_of xs g) (sym e) (omega arith)

below_or_same : (g k : ℕ) → g < k + 1 → (g < k) ⊎ (g ≡ k)
below_or_same g k h = at (nat_lt g k) refl where
  at : (b : Bool) → nat_lt g k ≡ b → (g < k) ⊎ (g ≡ k)
  at true e = inl (ltb-true g k e)
  at false e = inr (omega (arith, h, ltb-false g k e))

pub block_dealt : (least greater k : ℕ) (xs : List ℕ) → IsDealt least greater k xs → IsDealt least greater (k + 1) (xs ++ replicate (block_size least greater k) k)
block_dealt least greater k xs h = record {
  early = λ l. longer xs many k ∙ omega (arith, h.early (omega (arith, l)), block_early least greater k (omega (arith, l)), more least k);
  late = λ l. longer xs many k ∙ at_late l (nat_lt k greater) refl;
  below = All-append (λ g. g < k + 1) xs (replicate many k) (λ i d l. omega (arith, h.below i d l)) (All-replicate (λ g. g < k + 1) many k (omega arith));
  size = λ g l. at_size g (below_or_same g k l);
  rest = λ g l. size_there xs many k g (λ e. omega (arith, e, l)) ∙ h.rest g (omega (arith, l));
} where
  many : ℕ
  many = block_size least greater k

  at_late : greater ≤ k + 1 → (b : Bool) → nat_lt k greater ≡ b → length xs + many ≡ least * (k + 1) + greater
  at_late l true e = omega (arith, l, ltb-true k greater e, h.early (omega (arith, ltb-true k greater e)), block_early least greater k (ltb-true k greater e), more least k)
  at_late l false e = omega (arith, h.late (ltb-false k greater e), block_late least greater k (ltb-false k greater e), more least k)

  at_size : (g : ℕ) → (g < k) ⊎ (g ≡ k) → size_of (xs ++ replicate many k) g ≡ block_size least greater g
  at_size g (inl l) = size_there xs many k g (λ e. omega (arith, e, l)) ∙ h.size g l
  at_size g (inr e) = subst (λ m. size_of (xs ++ replicate many k) m ≡ block_size least greater m) (sym e) (size_here xs many k (h.rest k (omega arith)))

positive : (n k : ℕ) → 0 < k → k ≤ n → 0 < n / k
positive n k h l = at (n / k) (div-add-mod n k) where
  at : (q : ℕ) → k * q + n % k ≡ n → 0 < q
  at zero e = absurd (omega (arith, e, mod-lt n h, l))
  at (suc q) e = omega arith

least_size : (least greater g : ℕ) → least ≤ block_size least greater g
least_size least greater g = at (nat_lt g greater) where
  at : (b : Bool) → least ≤ cond b (least + 1) least
  at true = omega arith
  at false = omega arith

most_size : (least greater g : ℕ) → block_size least greater g ≤ least + 1
most_size least greater g = at (nat_lt g greater) where
  at : (b : Bool) → cond b (least + 1) least ≤ least + 1
  at true = omega arith
  at false = omega arith

pub whole_dealt : (n k : ℕ) (xs : List ℕ) → 0 < k → IsDealt (n / k) (n % k) k xs → length xs ≡ n
whole_dealt n k xs some h = h.late (omega (arith, mod-lt n some)) ∙ ap (λ m. m + n % k) (mul_comm (n / k) k) ∙ div-add-mod n k

pub dealt_partition : (n k : ℕ) (xs : List ℕ) → 0 < k → k ≤ n → IsDealt (n / k) (n % k) k xs → IsPartition n k xs
dealt_partition n k xs some few h = record {
  every = whole_dealt n k xs some h;
  below = h.below;
  filled = λ g l. omega (arith, positive n k some few, h.size g l, least_size (n / k) (n % k) g);
}

pub dealt_even : (n k : ℕ) (xs : List ℕ) → 0 < k → IsDealt (n / k) (n % k) k xs → AreEven k xs
dealt_even n k xs some h = record {
  least = λ g l. rw (whole_dealt n k xs some h) (omega (arith, h.size g l, least_size (n / k) (n % k) g));
  most = λ g l. rw (whole_dealt n k xs some h) (omega (arith, h.size g l, most_size (n / k) (n % k) g));
}

pub no_partition : (n k : ℕ) → n ≡ 0 → k ≡ 0 → IsPartition n k []
no_partition n k e f = record {
  every = sym e;
  below = All-nil (λ g. g < k);
  filled = λ g l. absurd (omega (arith, f, l));
}

pub no_even : (k : ℕ) → k ≡ 0 → AreEven k []
no_even k f = record {
  least = λ g l. absurd (omega (arith, f, l));
  most = λ g l. absurd (omega (arith, f, l));
}

-- a partition of as many components as the list has places
pub own_partition : (n k : ℕ) (xs : List ℕ) → IsPartition n k xs → IsPartition (length xs) k xs
own_partition n k xs h = record { every = refl; below = h.below; filled = h.filled }
