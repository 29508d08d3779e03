-- What a trace file gives, and its first line at fault.
use Rattle.std.specs.Prelude.{◌≡◌, ℕ, List, [], ◌∷◌, ◌++◌}
use Rattle.terms.specs.Named.{Named}
use Rattle.plans.specs.declared.plan.Plan.{Plan}
use Rattle.trace.specs.FileFaults.{IsFileFault}
use Rattle.trace.specs.Written.{Line, line_text, IsLine, LineGives}
use Rattle.trace.specs.declared.fault.TraceError.{TraceError}
use Rattle.trace.specs.declared.fault.TraceError.TheVariants as trace
use Rattle.trace.specs.declared.line_fault.LineFault.{LineFault}
use Rattle.trace.specs.declared.line_fault.LineFault.TheVariants as fault

-- the text is that of a line that gives these actions
pub record IsGiven (plan : Plan) (text : List ℕ) (given : List Named) : Type 0 where
  pub line : Line
  pub proper : IsLine plan line
  pub is : text ≡ line_text plan line
  pub gives : LineGives plan line given

-- the text is that of no line
abbrev pub IsBad : Plan → List ℕ → Type 0
IsBad plan text = (line : Line) → IsLine plan line → text ≡ line_text plan line → ⊥

-- the text is that of a line whose action the composition doesn't have
pub record IsUnknown (plan : Plan) (text : List ℕ) : Type 0 where
  pub line : Line
  pub proper : IsLine plan line
  pub is : text ≡ line_text plan line
  pub unknown : (given : List Named) → LineGives plan line given → ⊥

-- lines, one after another, give these actions
abbrev pub Gives : Plan → List (List ℕ) → List Named → Type 0
Gives plan [] actions = actions ≡ []
Gives plan (text ∷ texts) actions = (given later : List Named) × IsGiven plan text given × Gives plan texts later × (actions ≡ given ++ later)

-- why a file isn't read
abbrev pub IsTraceFault : Plan → List ℕ → TraceError → Type 0
IsTraceFault plan bytes error = IsFileFault (Gives plan) (IsBad plan) (IsUnknown plan) bytes error

-- what each fault says; want of memory says nothing
abbrev pub Blames : Type 0 → Type 0 → LineFault → Type 0
Blames bad unknown fault.NoMemory = Unit {0}
Blames bad unknown fault.Bad = bad
Blames bad unknown fault.Unknown = unknown

-- the fault of a file, from that of a line
abbrev pub fault_of : LineFault → ℕ → TraceError
fault_of fault.NoMemory line = trace.NoMemory
fault_of fault.Bad line = trace.BadLine line
fault_of fault.Unknown line = trace.UnknownAction line
