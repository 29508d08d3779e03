-- Executions of the composition of the components, in Lynch's words (Distributed Algorithms, sections 8.1 and 8.2).
use Rattle.std.specs.Prelude.{◌≡◌, ℕ, true, false, Option, None, Some, List, [], ◌∷◌}
use Rattle.virtual_time.specs.Machine.{Machine}
use Rattle.virtual_time.specs.Reference.{Turn}

-- A joint step: a component that has the action under its control takes it, each component that has it as input takes it too,
-- and every other component's state stays.
pub record IsJoint {S A : Type 0} (machine : Machine S A) (s : ℕ → S) (a : A) (s' : ℕ → S) : Type 0 where
  -- the component, and a turn at which it takes the action in this state
  pub by : ℕ
  pub turn : ℕ
  pub enabled : machine.outcome by turn (s by) ≡ Some a
  pub own : s' by ≡ machine.apply by a (s by)
  pub input : (j : ℕ) → machine.receives by a j ≡ true → s' j ≡ machine.apply j a (s j)
  pub others : (j : ℕ) → (j ≡ by → ⊥) → machine.receives by a j ≡ false → s' j ≡ s j

-- A chain of joint steps with these actions, the last one first, leads from the start states to these states.
abbrev pub IsExecution : {S A : Type 0} → Machine S A → List A → (ℕ → S) → Type 0
IsExecution machine [] s = (j : ℕ) → s j ≡ machine.start j
IsExecution {S} {A} machine (a ∷ actions) s' = (s : ℕ → S) × IsExecution machine actions s × IsJoint machine s a s'

-- One more action, unless the turn was idle.
abbrev pub add_action : {A : Type 0} → Option A → List A → List A
add_action None actions = actions
add_action (Some a) actions = a ∷ actions

-- The schedule of a list of turns: its actions, idle turns left out.
abbrev pub schedule : {A : Type 0} → List (Turn A) → List A
schedule [] = []
schedule (t ∷ ts) = add_action t.outcome (schedule ts)
