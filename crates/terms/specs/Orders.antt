-- The order of actions.
use Rattle.std.specs.declared.cmp.Ordering.{Ordering}
use Rattle.std.specs.Ordering.{nat_cmp, on, then_cmp}
use Rattle.std.specs.Cmp.Lexicographic.{slice_cmp}
use Rattle.terms.specs.Named.{Named}
use Rattle.terms.specs.declared.scalar.Scalar.{Scalar}

-- by the name, then by the arguments from the left
abbrev pub action_cmp : (Scalar → Scalar → Ordering) → Named → Named → Ordering
action_cmp scalar_cmp = then_cmp (on (λ action. action.name) nat_cmp) (on (λ action. action.args) (slice_cmp scalar_cmp))
