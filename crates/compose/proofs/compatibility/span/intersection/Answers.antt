use Rattle.std.proofs.Common.{◌≡◌, arith, ◌&&◌, int_le, int_lt, ℤ, refl}
use Rattle.std.proofs.lemmas.Int.{ints, to_z-of_z}
use Rattle.std.specs.Int.{int_max, int_min}
use Rattle.terms.specs.declared.scalar.Scalar.{Scalar}
use Rattle.terms.specs.declared.scalar.Scalar.TheVariants.{Int, Bool, Member}
use Rattle.compose.specs.declared.compatibility.span.Span.TheVariants.{Numbers}
use Rattle.compose.specs.Spans.{is_in}
use Rattle.compose.proofs.compatibility.span.intersection.Goals as goal

-- a whole number is in both rows exactly if it is from the greater of the beginnings to the lesser of the ends
in_both : (least end other other_end z : ℤ) → (int_le (int_max least other) z && int_lt z (int_min end other_end)) ≡ ((int_le least z && int_lt z end) && (int_le other z && int_lt z other_end))
in_both least end other other_end z = grind (arith, ints)

-- the same of two sets of whole numbers
in_both_rows : (least end other other_end from to : ℤ) → from ≡ int_max least other → to ≡ int_min end other_end → (value : Scalar) → is_in (Numbers from to) value ≡ (is_in (Numbers least end) value && is_in (Numbers other other_end) value)
in_both_rows least end other other_end from to begins ends (Int z) = rw (begins, ends) (in_both least end other other_end z)
in_both_rows least end other other_end from to begins ends (Bool b) = refl
in_both_rows least end other other_end from to begins ends (Member n) = refl

pub returns-in-Numbers-Numbers : goal.returns-in-Numbers-Numbers
returns-in-Numbers-Numbers c = λ value.
    let rows = c.in-Numbers-Numbers in
    rw (rows.is-0, rows.is-1) (in_both_rows rows.least rows.end rows.other rows.other_end _ _ (grind (arith, to_z-of_z)) (grind (arith, to_z-of_z)) value)
