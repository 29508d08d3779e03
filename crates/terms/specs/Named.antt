-- Actions without where they lie in memory.
use Rattle.std.specs.Prelude.{ℕ, List}
use Rattle.terms.specs.declared.scalar.Scalar.{Scalar}

-- an action: the number of its name, and its arguments
pub record Named : Type 0 where
  pub name : ℕ
  pub args : List Scalar
