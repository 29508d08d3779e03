-- What the lines of a file of steps say, and how they are written.
use Rattle.std.specs.Prelude.{◌≡◌, ℕ, ◌^◌, ◌<◌, List, ◌++◌, codes}
use Rattle.std.specs.Fmt.{decimal}
use Rattle.event_keys.specs.declared.key.Key.{Key}
use Rattle.event_keys.specs.declared.key.Bound.{Bound}
use Rattle.event_keys.specs.declared.key.Bound.TheVariants.{At, End}
use Rattle.event_keys.specs.declared.message.Message.{Message}
use Rattle.event_keys.specs.declared.message.Sign.{Sign}
use Rattle.event_keys.specs.declared.message.Sign.TheVariants.{Plus, Minus}
use Rattle.plans.specs.declared.plan.Plan.{Plan}
use Rattle.event_keys.specs.declared.step.Step.{Step}
use Rattle.event_keys.specs.declared.step.Step.TheVariants as step
use Rattle.trace.specs.Lines.{number_text, key_text}
use Rattle.trace.specs.Written.{Written, written_text, IsWritten, IsKnown}

-- a message as it is written: the component that it goes to, its key and its action
pub record WrittenMessage : Type 0 where
  pub to : ℕ
  pub key : Key
  pub action : Written

abbrev pub message_text : Plan → WrittenMessage → List ℕ
message_text plan message = number_text message.to ++ (key_text message.key ++ written_text plan message.action)

-- a message is marked by a plus, its antimessage by a minus
abbrev pub sign_text : Sign → List ℕ
sign_text Plus = codes "+ "
sign_text Minus = codes "- "

-- a bound is a key's tick, component and number, or the end
abbrev pub bound_text : Bound → List ℕ
bound_text (At key) = number_text key.tick ++ (number_text key.component ++ decimal key.number)
bound_text End = codes "end"

-- a line has one step
pub data StepLine : Type 0 where
  Process : ℕ → StepLine
  Deliver : Sign → WrittenMessage → StepLine
  Meet : WrittenMessage → StepLine
  RollBack : ℕ → StepLine
  Commit : Bound → StepLine

-- the line's text, without its line feed
abbrev pub step_text : Plan → StepLine → List ℕ
step_text plan (Process component) = codes "process " ++ decimal component
step_text plan (Deliver sign message) = codes "deliver " ++ (sign_text sign ++ message_text plan message)
step_text plan (Meet message) = codes "meet " ++ message_text plan message
step_text plan (RollBack component) = codes "back " ++ decimal component
step_text plan (Commit bound) = codes "commit " ++ bound_text bound

-- a key's tick and number are of 64 bits, its component of 16
pub record IsStepKey (key : Key) : Type 0 where
  pub tick : key.tick < 2 ^ 64
  pub component : key.component < 2 ^ 16
  pub number : key.number < 2 ^ 64

pub record IsWrittenMessage (plan : Plan) (message : WrittenMessage) : Type 0 where
  pub to : message.to < 2 ^ 16
  pub key : IsStepKey message.key
  pub action : IsWritten plan message.action

abbrev pub IsStepBound : Bound → Type 0
IsStepBound (At key) = IsStepKey key
IsStepBound End = Unit {0}

abbrev pub IsStepLine : Plan → StepLine → Type 0
IsStepLine plan (Process component) = component < 2 ^ 16
IsStepLine plan (Deliver sign message) = IsWrittenMessage plan message
IsStepLine plan (Meet message) = IsWrittenMessage plan message
IsStepLine plan (RollBack component) = component < 2 ^ 16
IsStepLine plan (Commit bound) = IsStepBound bound

-- what is written is this message, whose action is one of the composition
pub record IsMessage (plan : Plan) (written : WrittenMessage) (message : Message) : Type 0 where
  pub to : message.to ≡ written.to
  pub key : message.key ≡ written.key
  pub action : IsKnown plan written.action message.action

-- what is written says this step
abbrev pub Says : Plan → StepLine → Step → Type 0
Says plan (Process component) said = said ≡ step.Process component
Says plan (Deliver sign written) said = (message : Message) × IsMessage plan written message × (said ≡ step.Deliver (record { message = message; sign = sign }))
Says plan (Meet written) said = (message : Message) × IsMessage plan written message × (said ≡ step.Meet message)
Says plan (RollBack component) said = said ≡ step.RollBack component
Says plan (Commit bound) said = said ≡ step.Commit bound
