-- Products that are counted as far as a limit.
use Rattle.std.proofs.Common.{◌≡◌, ℕ, zero, suc, ◌*◌, ◌≤◌, inl, inr, arith, ap, ◌∙◌}
use Rattle.std.proofs.Math.Nat.{mul-le-mul, mul_comm}
use Rattle.std.proofs.lemmas.Bool.{cases_lt}
use Rattle.ioa_typing.specs.KindViews.{capped}

left_big : (a b : ℕ) → 65537 ≤ a → capped (capped a * capped b) ≡ capped (a * b)
left_big a zero h = grind arith
left_big a (suc b) h =
    let one : 1 ≤ suc b = omega arith in
    let some : 1 ≤ capped (suc b) = omega arith in
    let full : 65537 ≤ capped a = omega arith in
    let p : 65537 * 1 ≤ capped a * capped (suc b) = mul-le-mul full some in
    let q : 65537 * 1 ≤ a * suc b = mul-le-mul h one in
    omega arith

both_small : (a b : ℕ) → a ≤ 65537 → b ≤ 65537 → capped (capped a * capped b) ≡ capped (a * b)
both_small a b h k =
    let e : capped a ≡ a = omega arith in
    let f : capped b ≡ b = omega arith in
    cc

pub capped_times : (a b : ℕ) → capped (capped a * capped b) ≡ capped (a * b)
capped_times a b = elim (cases_lt a 65537) as (λ w. capped (capped a * capped b) ≡ capped (a * b)) [
  | inl h ↦ elim (cases_lt b 65537) as (λ w. capped (capped a * capped b) ≡ capped (a * b)) [
    | inl k ↦ both_small a b (omega arith) (omega arith)
    | inr k ↦ ap capped (mul_comm (capped a) (capped b)) ∙ left_big b a k ∙ ap capped (mul_comm b a)
  ]
  | inr h ↦ left_big a b h
]

pub product_is : {r x y : ℕ} (a b : ℕ) → r ≡ capped (x * y) → x ≡ capped a → y ≡ capped b → r ≡ capped (a * b)
product_is a b p q r = p ∙ ap capped (cc) ∙ capped_times a b
