-- What is said of a list of actions: that they are a schedule, or which of them is the first at fault.
use Rattle.std.specs.Prelude.{◌≡◌, ℕ, Bool as Truth, true, false, List, [], take, get_or, slice_get, Option, None, Some}
use Rattle.terms.specs.Datum.{Datum}
use Rattle.terms.specs.Named.{Named}
use Rattle.io_automata.specs.declared.automaton.Kind.{Kind}
use Rattle.io_automata.specs.declared.automaton.Kind.TheVariants.{Input, Output, Internal}
use Rattle.io_automata.specs.Automata.{Instance}
use Rattle.io_automata.specs.Signatures.{acts, controls}
use Rattle.io_automata.specs.Steps.{Joint, Leads, IsSchedule, start_of, is_enabled}
use Rattle.reference.specs.declared.checking.Fault.{Fault}
use Rattle.reference.specs.declared.checking.Fault.TheVariants.{Barred, Foreign}
use Rattle.reference.specs.declared.checking.Verdict.{Verdict}
use Rattle.reference.specs.declared.checking.Verdict.TheVariants.{Schedule, NotEnabled, NotAnAction}

-- A component that controls the action has not its precondition.
pub record IsBarred (composition : List Instance) (action : Named) (states : ℕ → List Datum) : Type 0 where
  pub controller : ℕ
  pub in_control : controls composition controller action ≡ true
  pub disabled : is_enabled composition controller action (states controller) ≡ false

-- The actions before a place are a schedule, and the action there is of no component.
pub record IsForeignAt (composition : List Instance) (actions : List Named) (at : ℕ) : Type 0 where
  pub action : Named
  pub there : slice_get actions at ≡ Some action
  pub before : IsSchedule composition (take at actions)
  pub foreign : (i : ℕ) → acts composition i action ≡ false

-- The actions before a place lead from the start to states in which a component that controls the action there has not its precondition.
pub record IsDisabledAt (composition : List Instance) (actions : List Named) (at : ℕ) : Type 0 where
  pub action : Named
  pub there : slice_get actions at ≡ Some action
  pub states : ℕ → List Datum
  pub reached : Leads composition (start_of composition) (take at actions) states
  pub barred : IsBarred composition action states

-- the verdict on a list of actions
abbrev pub IsVerdict : List Instance → List Named → Verdict → Type 0
IsVerdict composition actions Schedule = IsSchedule composition actions
IsVerdict composition actions (NotEnabled at) = IsDisabledAt composition actions at
IsVerdict composition actions (NotAnAction at) = IsForeignAt composition actions at

-- the state of component i in a list of one state a component; beyond them it has no cell
abbrev pub state_at : List (List Datum) → ℕ → List Datum
state_at states i = get_or states i []

-- the kind is one that its component controls
abbrev pub is_control : Option Kind → Truth
is_control None = false
is_control (Some Input) = false
is_control (Some Output) = true
is_control (Some Internal) = true

-- every component that controls the action has its precondition, or one has not
abbrev pub IsPermitted : List Instance → Named → (ℕ → List Datum) → Truth → Type 0
IsPermitted composition action states true = (i : ℕ) → controls composition i action ≡ true → is_enabled composition i action (states i) ≡ true
IsPermitted composition action states false = IsBarred composition action states

-- the component has its precondition if it controls the action, or it controls it and has not
abbrev pub IsPermittedBy : List Instance → Named → ℕ → List Datum → Truth → Type 0
IsPermittedBy composition action i state true = controls composition i action ≡ true → is_enabled composition i action state ≡ true
IsPermittedBy composition action i state false = (controls composition i action ≡ true) × (is_enabled composition i action state ≡ false)

-- a joint step has been made, or the action is barred or of no component
abbrev pub IsStepped : List Instance → Named → List (List Datum) → List (List Datum) → Option Fault → Type 0
IsStepped composition action olds news None = Joint composition (state_at olds) action (state_at news)
IsStepped composition action olds news (Some Barred) = IsBarred composition action (state_at olds)
IsStepped composition action olds news (Some Foreign) = (i : ℕ) → acts composition i action ≡ false
