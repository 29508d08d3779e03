-- The system of a plan with the turns that are given, and the report where there is none.
use Rattle.std.specs.Prelude.{◌≡◌, ◌⊎◌, ◌<◌, ◌≤◌, ℕ, Bool, true, false, Option, None, List, slice_get}
use Rattle.plans.specs.declared.plan.Plan.{Plan}
use Rattle.io_automata.specs.Automata.{Instance}
use Rattle.plans.specs.Plans.{composition}
use Rattle.task_seed.specs.Any.{any_turn}
use Rattle.task_seed.specs.declared.any_turns.AnyTurns.{AnyTurns}
use Rattle.task_seed.specs.declared.setup.Setup.{Setup}
use Rattle.task_seed.specs.declared.table.Row.{Row}
use Rattle.task_seed.specs.declared.turns.Turn.{Turn}
use Rattle.task_seed.specs.Drawn.{drawn_turn}
use Rattle.task_seed.specs.Rows.{turns_of}
use Rattle.task_seed.specs.Setups.{plan_of, system}
use Rattle.task_seed.specs.Turning.{System}
use Rattle.commands.specs.declared.given.GivenTurns.{GivenTurns}
use Rattle.commands.specs.declared.given.GivenTurns.TheVariants as turns
use Rattle.commands.specs.declared.report.Report.{Report}
use Rattle.commands.specs.Parts.{IsMemory, IsRefusal}
use Rattle.commands.specs.Tables.{AreRows, AreSound, IsRefused}

-- the turns that are given: by the numbers of a seed, or by the bytes of a table
pub data Given : Type 0 where
  Seed : (seed stream gap : ℕ) (from_zero : Bool) → Given
  Table : (bytes : List ℕ) → Given

abbrev pub given_of : GivenTurns → Given
given_of (turns.Seed seed stream gap from_zero) = Seed seed stream gap from_zero
given_of (turns.Table table) = Table table.now

-- the gap is within its range
abbrev pub IsWithin : ℕ → Type 0
IsWithin gap = (1 ≤ gap) × (gap ≤ 65535)

-- the least gap that is drawn
abbrev pub least_gap : Bool → ℕ
least_gap true = 0
least_gap false = 1

-- the bytes are a table of the composition, with these turns
pub record IsTabled (composition : List Instance) (table : List ℕ) (turn : ℕ → ℕ → Option Turn)
    : Type 0 where
  pub rows : List Row
  pub are : AreRows table rows
  pub sound : AreSound composition rows
  pub is : turn ≡ (λ i n. slice_get (turns_of rows i) n)

-- these are the turns that are given
abbrev pub AreTurns : List Instance → Given → (ℕ → ℕ → Option Turn) → Type 0
AreTurns composition (Seed seed stream gap from_zero) turn =
    (turn ≡ drawn_turn seed stream (least_gap from_zero) gap) × IsWithin gap
AreTurns composition (Table bytes) turn = IsTabled composition bytes turn

-- the gap of drawn turns is out of its range (27)
pub record IsBadGap (gap number : ℕ) (place : Option ℕ) : Type 0 where
  pub number_is : number ≡ 27
  pub place_is : place ≡ None
  pub outside : (gap < 1) ⊎ (65535 < gap)

-- the turns that are given are refused with this number and place: their gap, or the table
abbrev pub AreRefused : List Instance → Given → ℕ → Option ℕ → Type 0
AreRefused composition (Seed seed stream gap from_zero) = IsBadGap gap
AreRefused composition (Table bytes) = IsRefused composition bytes

-- there are turns, and the last tick is out of its range (26)
pub record IsTooLong (composition : List Instance) (given : Given) (ticks number : ℕ)
    (place : Option ℕ) : Type 0 where
  pub number_is : number ≡ 26
  pub place_is : place ≡ None
  pub long : 4294967296 < ticks
  pub turn : ℕ → ℕ → Option Turn
  pub turns : AreTurns composition given turn

-- the report where there is no system; the turns are judged before the last tick
abbrev pub GivesNoSystem : List Instance → Given → ℕ → Report → Type 0
GivesNoSystem composition given ticks =
    IsRefusal
    (λ number place. AreRefused composition given number place
    ⊎ IsTooLong composition given ticks number place)
    IsMemory

-- the system is the plan's composition with the turns that are given, up to the last tick
pub record IsSystem (plan : Plan) (given : Given) (ticks : ℕ) (system : System) : Type 0 where
  pub composition_is : system.composition ≡ composition plan
  pub turns : AreTurns (composition plan) given system.turn
  pub horizon_is : system.horizon ≡ ticks
  pub short : ticks ≤ 4294967296

-- the setup is one of the plan, with this system
pub record IsSetup (plan : Plan) (given : Given) (ticks : ℕ) (setup : Setup AnyTurns)
    : Type 0 where
  pub plan_is : plan_of setup ≡ plan
  pub is : IsSystem plan given ticks (system any_turn setup)
