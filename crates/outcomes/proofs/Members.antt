-- A member of a type stands at its own place.
use Rattle.std.specs.Prelude.{◌≡◌, ℕ, zero, suc, ◌+◌, ◌-◌, ◌<◌, ◌≤◌, ◌^◌, min, ℤ, pos, ◌+ℤ◌, ◌-ℤ◌, int_lt, unsigned_abs, Bool as Truth, true, false, if◌then◌else◌, refl}
use Rattle.std.proofs.Common.{arith, ap, ◌∙◌}
use Rattle.std.proofs.Math.Nat.{mod-eq_of_lt}
use Rattle.std.proofs.lemmas.Bool.Decides.{nat_tests}
use Rattle.std.proofs.lemmas.Int.{ints}
use Rattle.terms.specs.Shapes.{count, member, place, whole}
use Rattle.terms.specs.declared.scalar.Listed.{Listed}
use Rattle.terms.specs.declared.scalar.Listed.TheVariants as listed
use Rattle.io_automata.specs.TurnSteps.{wraps_not}
use Rattle.io_automata.specs.WellFormed.{is_complete}

least : (p total : ℕ) → p < total → min p (total - 1) ≡ p
least p total less = omega (arith, less)

in_range : (low : ℤ) (total p : ℕ) (v : ℤ) → v ≡ low +ℤ pos p → p < total → (if int_lt v low then 0 else min (unsigned_abs (v -ℤ low)) (total - 1)) ≡ p
in_range low total p v is less = rw is (go (int_lt (low +ℤ pos p) low) (grind (arith, ints)) (unsigned_abs (low +ℤ pos p -ℤ low)) (grind (arith, ints))) where
  go : (b : Truth) → b ≡ false → (n : ℕ) → n ≡ p → (if b then 0 else min n (total - 1)) ≡ p
  go true h n e = cc
  go false h n e = ap (λ (m : ℕ). min m (total - 1)) e ∙ least p total less

pub place_member : (type : Listed) (p : ℕ) → is_complete type ≡ true → p < count type → place type (member type p) ≡ p
place_member listed.Bool zero complete less = refl
place_member listed.Bool (suc zero) complete less = refl
place_member listed.Bool (suc (suc p)) complete less = absurd (omega (arith, less))
place_member (listed.Range low total) p complete less = in_range low total p (whole (low +ℤ pos p)) (wraps_not low total p complete less) less
place_member (listed.Enumeration first total) p complete less =
    let most : first + total ≤ 2 ^ 16 = grind (arith, nat_tests) in
    let below : first + p < 2 ^ 16 = omega (arith, most, less) in
    let back : first + p - first ≡ p = omega arith in
    ap (λ (n : ℕ). min (n - first) (total - 1)) (mod-eq_of_lt below)
    ∙ ap (λ (n : ℕ). min n (total - 1)) back
    ∙ least p total less
