-- What a trace file of version 2 gives, and its first line at fault.
use Rattle.std.specs.Prelude.{◌≡◌, ℕ, ◌<◌, List, [], ◌∷◌, ◌++◌, codes, length, map, Option, None, Some}
use Rattle.std.specs.declared.cmp.Ordering.TheVariants.{Less}
use Rattle.terms.specs.Named.{Named}
use Rattle.event_keys.specs.Orders.{key_order}
use Rattle.event_keys.specs.declared.key.Key.{Key}
use Rattle.event_keys.specs.declared.outcome.Turned.{Turned}
use Rattle.plans.specs.declared.plan.Plan.{Plan}
use Rattle.plans.specs.Plans.{composition}
use Rattle.trace.specs.FileFaults.{IsFirstAtFault}
use Rattle.trace.specs.Lines.{key_text, outcome_text}
use Rattle.trace.specs.Written.{Line, Alone, Turn, Idle, line_text, IsWritten, IsKey, LineGives}
use Rattle.trace.specs.WrittenTurns.{IsOutcome, actions_done}
use Rattle.trace.specs.declared.fault.TraceError.{TraceError}
use Rattle.trace.specs.declared.fault.TraceError.TheVariants as trace

-- the first line
abbrev pub head_line : List ℕ
head_line = codes "trace 2"

-- the key's numbers are of 64 bits, and its component exists
pub record IsKeyOf (plan : Plan) (key : Key) : Type 0 where
  pub numbers : IsKey key
  pub exists : key.component < length (composition plan)

-- the turn's component exists, and its action, if it did one, is one of the composition
pub record IsTurnOf (plan : Plan) (turned : Turned) : Type 0 where
  pub key : IsKeyOf plan turned.key
  pub outcome : IsOutcome plan turned.outcome

-- the turn's line, without its line feed
abbrev pub turn_text : Plan → Turned → List ℕ
turn_text plan turned = key_text turned.key ++ outcome_text plan turned.outcome

-- a key is above the last one, if there is one
abbrev pub IsAfter : Option Key → Key → Type 0
IsAfter None key = Unit {0}
IsAfter (Some last) key = key_order last key ≡ Less

-- the last key of turns, and the one before them where there are none
abbrev pub last_key : Option Key → List Turned → Option Key
last_key last [] = last
last_key last (turned ∷ turns) = last_key (Some turned.key) turns

-- turns of the plan, each with a key above the one before it
abbrev pub AreInOrder : Plan → Option Key → List Turned → Type 0
AreInOrder plan last [] = Unit {0}
AreInOrder plan last (turned ∷ turns) =
    IsTurnOf plan turned × IsAfter last turned.key × AreInOrder plan (Some turned.key) turns

-- the lines are the head and those of turns in order
pub record AreTurns (plan : Plan) (texts : List (List ℕ)) (turns : List Turned) : Type 0 where
  pub are : texts ≡ head_line ∷ map (turn_text plan) turns
  pub order : AreInOrder plan None turns

-- lines of turns in order give their actions
abbrev pub GivesInOrder : Plan → List (List ℕ) → List Named → Type 0
GivesInOrder plan texts actions =
    (turns : List Turned) × AreTurns plan texts turns × (actions ≡ actions_done turns)

-- a line of a turn whose component exists, with an action or idle
abbrev pub IsTurnLine : Plan → Line → Type 0
IsTurnLine plan (Alone written) = ⊥
IsTurnLine plan (Turn key written) = IsKeyOf plan key × IsWritten plan written
IsTurnLine plan (Idle key) = IsKeyOf plan key

-- 50: the text is that of no such line
abbrev pub IsNoTurn : Plan → List ℕ → Type 0
IsNoTurn plan text = (line : Line) → IsTurnLine plan line → text ≡ line_text plan line → ⊥

-- 51: it is that of such a line, whose action the composition doesn't have
pub record IsForeignTurn (plan : Plan) (text : List ℕ) : Type 0 where
  pub line : Line
  pub proper : IsTurnLine plan line
  pub is : text ≡ line_text plan line
  pub unknown : (given : List Named) → LineGives plan line given → ⊥

-- the text is the line of this turn
pub record SaysTurn (plan : Plan) (text : List ℕ) (turned : Turned) : Type 0 where
  pub proper : IsTurnOf plan turned
  pub is : text ≡ turn_text plan turned

-- 52: it is the line of a turn whose key isn't above the last one
pub record IsLate (plan : Plan) (last : Option Key) (text : List ℕ) : Type 0 where
  pub turned : Turned
  pub says : SaysTurn plan text turned
  pub late : IsAfter last turned.key → ⊥

-- why a file of version 2 isn't read: what its first line at fault is, after the turns before it
abbrev pub IsOrderedFault : Plan → List ℕ → TraceError → Type 0
IsOrderedFault plan bytes trace.NoMemory = Unit {0}
IsOrderedFault plan bytes (trace.BadLine n) =
    IsFirstAtFault (AreTurns plan) (λ turns. IsNoTurn plan) bytes n
IsOrderedFault plan bytes (trace.UnknownAction n) =
    IsFirstAtFault (AreTurns plan) (λ turns. IsForeignTurn plan) bytes n
IsOrderedFault plan bytes (trace.NotInOrder n) =
    IsFirstAtFault (AreTurns plan) (λ turns. IsLate plan (last_key None turns)) bytes n
