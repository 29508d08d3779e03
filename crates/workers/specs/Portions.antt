-- The turns that the calling thread takes from the exchange.
use Rattle.std.specs.Prelude.{◌≡◌, ℕ, ◌+◌, ◌++◌, ◌≤◌, true, Option, None, Some, List, [], length}
use Rattle.terms.specs.Named.{Named}
use Rattle.event_keys.specs.declared.outcome.Turned.{Turned}
use Rattle.virtual_time.specs.Reference.{Turn}
use Rattle.plans.specs.declared.plan.Plan.{Plan}
use Rattle.task_seed.specs.Machines.{machine, end_rank}
use Rattle.task_seed.specs.Turning.{System}
use Rattle.task_seed.specs.Taken.{turns_of}
use Rattle.schedules.specs.Schedules.{KeysFit}
use Rattle.group_exchange.specs.Chunks.{IsGiven}
use Rattle.trace.specs.declared.counted.Counted.{Counted}
use Rattle.trace.specs.declared.fault.WriteFault.{WriteFault}
use Rattle.trace.specs.declared.lines.Lines.{Lines}
use Rattle.trace.specs.Lines.{text_of}
use Rattle.trace.specs.Puts.{Stops}
use Rattle.workers.specs.declared.portions.Cut.{Cut}
use Rattle.workers.specs.declared.portions.Portion.{Portion}

-- after the turns that were given these are the next ones of the reference, up to a bound, which is the end where they are the last
pub record IsCutOf (s : System) (cut : Cut) (turns : List (Turn Named)) : Type 0 where
  pub bound : ℕ
  pub within : bound ≤ end_rank
  pub next : IsGiven (machine s) cut.first bound turns
  pub count : cut.given ≡ cut.first + length turns
  pub last : cut.is_last ≡ true → bound ≡ end_rank

-- the same of turns that are put together: after the turns that were given these are the next ones of the reference, up to a bound, which is the end where they are the last
pub record IsPortion (s : System) (p : Portion) : Type 0 where
  pub front : p.turns.before ≡ []
  pub bound : ℕ
  pub within : bound ≤ end_rank
  pub next : IsGiven (machine s) p.first bound (turns_of p.turns.after)
  pub count : p.given ≡ p.first + length p.turns.after
  pub last : p.is_last ≡ true → bound ≡ end_rank

-- there are none yet, or these
abbrev pub IsDuePortion : System → Option Portion → Type 0
IsDuePortion s None = Unit {0}
IsDuePortion s (Some portion) = IsPortion s portion

-- a write failed in the lines of the first of these turns, the numbers of whose keys fit their types
pub record IsStoppedIn {W : Type 0} (known : W → Option (List ℕ)) (plan : Plan) (lines : Lines)
    (old new : Counted W) (before : ℕ) (turns : List Turned) (fault : WriteFault) : Type 0 where
  pub first : List Turned
  pub rest : List Turned
  pub are : turns ≡ first ++ rest
  pub keys : KeysFit first
  pub stops : Stops known old new before (text_of plan lines first) fault
