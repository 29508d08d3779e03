-- What a run writes.
use Rattle.std.specs.Prelude.{◌≡◌, ℕ, Option, List, length, take}
use Rattle.event_keys.specs.declared.outcome.Turned.{Turned}
use Rattle.plans.specs.declared.plan.Plan.{Plan}
use Rattle.task_seed.specs.declared.setup.Setup.{Setup}
use Rattle.task_seed.specs.declared.turns.Turn.{Turn}
use Rattle.task_seed.specs.Setups.{plan_of, system}
use Rattle.task_seed.specs.Turning.{System}
use Rattle.schedules.specs.Schedules.{AreAllTurns, AreSchedule}
use Rattle.trace.specs.declared.fault.WriteFault.{WriteFault}
use Rattle.trace.specs.declared.counted.Counted.{Counted}
use Rattle.trace.specs.declared.lines.Lines.{Lines}
use Rattle.trace.specs.declared.texts.Form.{Form}
use Rattle.trace.specs.Headed.{Behind, headed}
use Rattle.trace.specs.Lines.{text_of}
use Rattle.trace.specs.Puts.{Stops}
use Rattle.trace.specs.Went.{IsWritten}
use Rattle.workers.specs.declared.fault.RunFault.{RunFault}
use Rattle.workers.specs.declared.fault.RunFault.TheVariants as fault

-- the text of all turns, of which there are so many, became this
pub record IsWhole (plan : Plan) (system : System) (lines : Lines) (Became : List ℕ → Type 0) (count : ℕ) : Type 0 where
  pub turns : List Turned
  pub are : AreAllTurns plan system turns
  pub count_is : count ≡ length turns
  pub became : Became (text_of plan lines turns)

-- the text of the first so many of all turns became this, and the actions of these are a schedule too
pub record IsBegun (plan : Plan) (system : System) (lines : Lines) (Became : List ℕ → Type 0) : Type 0 where
  pub turns : List Turned
  pub are : AreAllTurns plan system turns
  pub count : ℕ
  pub begun : AreSchedule plan (take count turns)
  pub became : Became (text_of plan lines (take count turns))

-- a write failed in the text of all turns
pub record IsCut (plan : Plan) (system : System) (lines : Lines) (Cut : List ℕ → Type 0) : Type 0 where
  pub turns : List Turned
  pub are : AreAllTurns plan system turns
  pub cut : Cut (text_of plan lines turns)

-- why not all is written: the lines of the first turns went out, or a write failed and the text is cut
abbrev pub IsUnfinished : Plan → System → Lines → (List ℕ → Type 0) → (List ℕ → WriteFault → Type 0) → RunFault → Type 0
IsUnfinished plan system lines Became cut fault.NoMemory = IsBegun plan system lines Became
IsUnfinished plan system lines Became cut (fault.Meeting refused) = IsBegun plan system lines Became
IsUnfinished plan system lines Became cut (fault.Write failed) = IsCut plan system lines (λ text. cut text failed)
IsUnfinished plan system lines Became cut fault.ThreadRefused = IsBegun plan system lines Became
IsUnfinished plan system lines Became cut fault.OutOfPlace = IsBegun plan system lines Became

-- what a run of a setup, whose turns are read by turn_of, has written to a writer, of which its contents are known
module _ {T W : Type 0} (turn_of : T → ℕ → ℕ → Option Turn) (known : W → Option (List ℕ)) (setup : Setup T) (lines : Lines) (old new : Counted W) where
  -- the text of all turns, so many
  abbrev pub WroteAll : ℕ → Type 0
  WroteAll count = IsWhole (plan_of setup) (system turn_of setup) lines (IsWritten known old new) count

  -- not all of it, for this reason, where so many bytes went out before
  abbrev pub WroteSome : ℕ → RunFault → Type 0
  WroteSome before why = IsUnfinished (plan_of setup) (system turn_of setup) lines (IsWritten known old new) (Stops known old new before) why

-- the same of the text behind the head, where that is asked for
module _ {T W : Type 0} (turn_of : T → ℕ → ℕ → Option Turn) (known : W → Option (List ℕ)) (setup : Setup T) (form : Form) (old new : Counted W) where
  abbrev pub WroteAllIn : ℕ → Type 0
  WroteAllIn count = IsWhole (plan_of setup) (system turn_of setup) form.lines (Behind form.head (IsWritten known old new)) count

  abbrev pub WroteSomeIn : RunFault → Type 0
  WroteSomeIn why =
      IsUnfinished (plan_of setup) (system turn_of setup) form.lines (Behind form.head (IsWritten known old new))
      (λ text. Stops known old new 0 (headed form.head text)) why
