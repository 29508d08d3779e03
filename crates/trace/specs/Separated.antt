-- Arguments with commas between them.
use Rattle.std.specs.Prelude.{◌≡◌, ℕ, List, ◌∷◌, ◌++◌, codes}
use Rattle.std.specs.List.{AllByRecursion}
use Rattle.terms.specs.declared.scalar.Scalar.{Scalar}
use Rattle.plans.specs.declared.plan.Plan.{Plan}
use Rattle.trace.specs.Lines.{argument_text, others_text}
use Rattle.trace.specs.Written.{IsArgument}

-- the text is that of these arguments, of which there is one at least, with commas between them
pub record IsSeparated (plan : Plan) (text : List ℕ) (args : List Scalar) : Type 0 where
  pub first : Scalar
  pub others : List Scalar
  pub are : args ≡ first ∷ others
  pub proper : AllByRecursion (IsArgument plan) args
  pub is : text ≡ argument_text plan first ++ others_text plan others

-- and a closing bracket after them
pub record IsClosed (plan : Plan) (text : List ℕ) (args : List Scalar) : Type 0 where
  pub inner : List ℕ
  pub separated : IsSeparated plan inner args
  pub is : text ≡ inner ++ codes ")"
