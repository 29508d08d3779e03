-- Whether a text is that of an action.
use Rattle.std.specs.Prelude.{◌≡◌, ℕ, List}
use Rattle.terms.specs.Named.{Named}
use Rattle.plans.specs.declared.plan.Plan.{Plan}
use Rattle.trace.specs.Written.{Written, written_text, IsWritten, IsKnown}

-- the text is that of an action of the composition
pub record IsAction (plan : Plan) (text : List ℕ) (action : Named) : Type 0 where
  pub written : Written
  pub proper : IsWritten plan written
  pub is : text ≡ written_text plan written
  pub known : IsKnown plan written action

-- the text is that of a name with arguments, and the composition has no such action
pub record IsForeign (plan : Plan) (text : List ℕ) : Type 0 where
  pub written : Written
  pub proper : IsWritten plan written
  pub is : text ≡ written_text plan written
  pub unknown : (action : Named) → IsKnown plan written action → ⊥

-- the text is that of no name with arguments
abbrev pub IsNoAction : Plan → List ℕ → Type 0
IsNoAction plan text = (written : Written) → IsWritten plan written → text ≡ written_text plan written → ⊥
