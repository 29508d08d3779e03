-- The parts of which reports are made, and the report on one thread that simulates.
use Rattle.std.specs.Prelude.{◌≡◌, ◌⊎◌, ℕ, Option, List}
use Rattle.plans.specs.declared.plan.Plan.{Plan}
use Rattle.task_seed.specs.Turning.{System}
use Rattle.trace.specs.declared.texts.Form.{Form}
use Rattle.trace.specs.Headed.{Behind, headed}
use Rattle.commands.specs.Simulated.{IsSimulated, IsSimulatedInPart}
use Rattle.commands.specs.declared.report.Report.{Report}
use Rattle.commands.specs.declared.report.Report.TheVariants.{Done, No, Driven, Ran, Explained, Refused, Fault, Misused}

-- want of memory alone
abbrev pub IsMemory : ℕ → Type 0
IsMemory number = number ≡ 1

-- the report that something is refused, or that something is lacking
abbrev pub IsRefusal : (ℕ → Option ℕ → Type 0) → (ℕ → Type 0) → Report → Type 0
IsRefusal Bad Lacks Done = ⊥
IsRefusal Bad Lacks No = ⊥
IsRefusal Bad Lacks (Driven refused) = ⊥
IsRefusal Bad Lacks (Ran stats) = ⊥
IsRefusal Bad Lacks Explained = ⊥
IsRefusal Bad Lacks (Refused number place) = Bad number place
IsRefusal Bad Lacks (Fault number) = Lacks number
IsRefusal Bad Lacks Misused = ⊥

-- the report that something is lacking
abbrev pub IsLacking : (ℕ → Type 0) → Report → Type 0
IsLacking = IsRefusal (λ number place. ⊥)

-- a write failed (60), and the text, behind the head that is asked for, is cut after so many bytes
pub record IsSimulationCut (plan : Plan) (system : System) (form : Form)
    (cut : List ℕ → ℕ → Type 0) (number : ℕ) : Type 0 where
  pub number_is : number ≡ 60
  pub written : ℕ
  pub stopped : IsSimulated plan system form.lines (λ text. cut (headed form.head text) written)

-- the report on a plan with turns, whose text stands behind the head that is asked for; where
-- memory is wanted (1), the lines of the first turns went out
abbrev pub IsSimulationReport : Plan → System → Form → (List ℕ → Type 0)
    → (List ℕ → ℕ → Type 0) → Report → Type 0
IsSimulationReport plan system form wrote cut Done =
    IsSimulated plan system form.lines (Behind form.head wrote)
IsSimulationReport plan system form wrote cut No = ⊥
IsSimulationReport plan system form wrote cut (Driven refused) = ⊥
IsSimulationReport plan system form wrote cut (Ran stats) = ⊥
IsSimulationReport plan system form wrote cut Explained = ⊥
IsSimulationReport plan system form wrote cut (Refused number place) = ⊥
IsSimulationReport plan system form wrote cut (Fault number) =
    (IsMemory number × IsSimulatedInPart plan system form.lines (Behind form.head wrote))
    ⊎ IsSimulationCut plan system form cut number
IsSimulationReport plan system form wrote cut Misused = ⊥
