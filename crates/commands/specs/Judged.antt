-- What `check` says of the actions in a file.
use Rattle.std.specs.Prelude.{ℕ, List, ◌++◌, codes, decimal}
use Rattle.terms.specs.Named.{Named}
use Rattle.plans.specs.declared.plan.Plan.{Plan}
use Rattle.plans.specs.Plans.{composition}
use Rattle.reference.specs.declared.checking.Verdict.{Verdict}
use Rattle.reference.specs.declared.checking.Verdict.TheVariants.{Schedule, NotEnabled, NotAnAction}
use Rattle.reference.specs.Verdicts.{IsVerdict}
use Rattle.trace.specs.Puts.{written_of}
use Rattle.trace.specs.Versions.{GivesFile, HasFault}
use Rattle.commands.specs.declared.fault.CheckFault.{CheckFault}
use Rattle.commands.specs.declared.fault.CheckFault.TheVariants as fault

-- the line of a verdict
abbrev pub verdict_text : Verdict → List ℕ
verdict_text Schedule = codes "schedule\n"
verdict_text (NotEnabled at) = codes "not enabled at " ++ decimal at ++ codes "\n"
verdict_text (NotAnAction at) = codes "not an action at " ++ decimal at ++ codes "\n"

-- the file gives actions with this verdict, and its line became this
pub record IsJudged (plan : Plan) (trace : List ℕ) (verdict : Verdict) (Became : List ℕ → Type 0) : Type 0 where
  pub actions : List Named
  pub given : GivesFile plan trace actions
  pub judged : IsVerdict (composition plan) actions verdict
  pub became : Became (verdict_text verdict)

-- a verdict's line is cut
pub record IsJudgedInPart (plan : Plan) (trace : List ℕ) (Cut : List ℕ → Type 0) : Type 0 where
  pub verdict : Verdict
  pub cut : IsJudged plan trace verdict Cut

-- why nothing is said, or not all: what was there is kept, or a write failed and the line is cut after so many bytes
abbrev pub IsUnjudged : Plan → List ℕ → Type 0 → (List ℕ → ℕ → Type 0) → CheckFault → Type 0
IsUnjudged plan trace kept cut fault.NoMemory = kept
IsUnjudged plan trace kept cut (fault.Trace refused) = HasFault plan trace refused × kept
IsUnjudged plan trace kept cut (fault.Write failed) = IsJudgedInPart plan trace (λ text. cut text (written_of failed))
