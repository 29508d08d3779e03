-- What a text names that is hunted for.
use Rattle.std.specs.Prelude.{◌≡◌, ◌≢◌, ◌⊎◌, ℕ, List, [], ◌∷◌, length}
use Rattle.terms.specs.Named.{Named}
use Rattle.plans.specs.declared.plan.Plan.{Plan}
use Rattle.plans.specs.Plans.{action_texts}
use Rattle.trace.specs.Versions.{GivesFile, HasFault}
use Rattle.trace.specs.Written.{IsNumberOf}
use Rattle.trace.specs.declared.fault.TraceError.{TraceError}
use Rattle.trace.specs.declared.fault.TraceError.TheVariants.{BadLine}
use Rattle.hunt.specs.declared.wanted.Wanted.{Wanted}
use Rattle.hunt.specs.declared.wanted.Wanted.TheVariants.{Name, Only}

-- the text is a name of the composition's actions, or as a trace file it gives one action
abbrev pub IsWanted : Plan → List ℕ → Wanted → Type 0
IsWanted plan text (Name number) = IsNumberOf (action_texts plan) text number
IsWanted plan text (Only action) = GivesFile plan text (action ∷ [])

-- as a trace file the text gives no action, or more than one
pub record GivesNotOne (plan : Plan) (text : List ℕ) : Type 0 where
  pub actions : List Named
  pub given : GivesFile plan text actions
  pub many : length actions ≢ 1

-- as a trace file the text is refused, or the text gives not one action, which is a bad line
abbrev pub IsBadFile : Plan → List ℕ → TraceError → Type 0
IsBadFile plan text error =
    HasFault plan text error ⊎ ((error ≡ BadLine 1) × GivesNotOne plan text)

-- why a text names nothing to hunt for
pub record IsUnwanted (plan : Plan) (text : List ℕ) (error : TraceError) : Type 0 where
  pub nameless : (number : ℕ) → IsNumberOf (action_texts plan) text number → ⊥
  pub bad : IsBadFile plan text error
