-- Sets of neighbouring scalars.
use Rattle.std.specs.Prelude.{int_le, int_lt, nat_le, nat_lt, Bool as Truth, false, true, ◌&&◌, if◌then◌else◌}
use Rattle.terms.specs.declared.scalar.Scalar.{Scalar}
use Rattle.terms.specs.declared.scalar.Scalar.TheVariants.{Int, Bool, Member}
use Rattle.compose.specs.declared.compatibility.span.Span.{Span}
use Rattle.compose.specs.declared.compatibility.span.Span.TheVariants.{Whole, Numbers, Truths, Members}

-- the scalar is one of the set
abbrev pub is_in : Span → Scalar → Truth
is_in Whole (Int z) = true
is_in Whole (Bool b) = false
is_in Whole (Member n) = false
is_in (Numbers least end) (Int z) = int_le least z && int_lt z end
is_in (Numbers least end) (Bool b) = false
is_in (Numbers least end) (Member n) = false
is_in (Truths has_false has_true) (Int z) = false
is_in (Truths has_false has_true) (Bool b) = if b then has_true else has_false
is_in (Truths has_false has_true) (Member n) = false
is_in (Members least end) (Int z) = false
is_in (Members least end) (Bool b) = false
is_in (Members least end) (Member n) = nat_le least n && nat_lt n end
