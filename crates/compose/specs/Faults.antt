-- The faults of compositions, and which of them decides.
use Rattle.std.specs.Prelude.{◌≡◌, ◌≤◌, ◌<◌, ℕ, Bool, true, false, ◌&&◌, Option, None, Some, List, length, map, slice_get, nat_lt, bytes_eq, if◌then◌else◌}
use Rattle.std.specs.List.{list_any}
use Rattle.ioa_trees.specs.Trees.{Bytes}
use Rattle.ioa_trees.specs.declared.tree.EntryKind.{EntryKind}
use Rattle.ioa_trees.specs.declared.tree.EntryKind.TheVariants as kind
use Rattle.ioa_trees.specs.EntryRules.{Meant}
use Rattle.ioa_trees.specs.AutomatonRules.{MeantAutomaton}
use Rattle.ioa_trees.specs.SourceRules.{MeantComponent, MeantSource}
use Rattle.ioa_check.specs.declared.resolved.Component.{Component}
use Rattle.plans.specs.declared.plan.Plan.{Plan}
use Rattle.plans.specs.Plans.{composition, action_texts, action_types, hidden_marks, member_texts}
use Rattle.compose.specs.Rules.{Breaks, IsFirst}
use Rattle.compose.specs.declared.compatibility.rule.Rule.TheVariants as rule
use Rattle.compose.specs.Types.{TypesDiffer}
use Rattle.compose.specs.Instances.{instances}
use Rattle.compose.specs.Names.{AreNames, automaton_at, first_types, is_hidden}
use Rattle.compose.specs.declared.fault.ComposeError.{ComposeError}
use Rattle.compose.specs.declared.fault.ComposeError.TheVariants as error

-- the most components of a composition
abbrev pub most_components : ℕ
most_components = 1024

pub data Fault : Type 0 where
  -- the automaton of a component isn't known
  Unknown : Fault
  -- the components aren't compatible
  Own : Fault
  Internal : Fault
  Output : Fault
  -- entries of one name differ in the types of their parameters
  Types : Fault
  -- more than 1,024 components
  Many : Fault
  -- a hidden name is no component's output
  Hidden : Fault

abbrev pub fault_number : Fault → ℕ
fault_number Unknown = 20
fault_number Own = 21
fault_number Internal = 22
fault_number Output = 23
fault_number Types = 24
fault_number Many = 25
fault_number Hidden = 36

-- One of the components 0 to j has no automaton.
pub record AutomatonMissing (components : List MeantComponent) (j : ℕ) : Type 0 where
  pub number : ℕ
  pub within : number ≤ j
  pub component : MeantComponent
  pub at : slice_get components number ≡ Some component
  pub missing : component.automaton ≡ None

-- whether a component of the code has no automaton
abbrev pub lacks : Option ℕ → Bool
lacks None = true
lacks (Some n) = false

abbrev pub unknown_in : Option Component → Bool
unknown_in None = false
unknown_in (Some c) = lacks c.automaton

abbrev pub unknown_at : List Component → ℕ → Bool
unknown_at components n = unknown_in (slice_get components n)

-- an entry of an output of this name, an automaton that has one, and some component's automaton
abbrev pub is_output : EntryKind → Bool
is_output kind.Input = false
is_output kind.Output = true
is_output kind.Internal = false

abbrev pub is_output_of : Bytes → Meant → Bool
is_output_of q e = is_output e.kind && bytes_eq q e.name

abbrev pub gives : Bytes → Option MeantAutomaton → Bool
gives q None = false
gives q (Some a) = list_any (is_output_of q) a.entries

abbrev pub gives_in : List MeantAutomaton → Bytes → MeantComponent → Bool
gives_in automata q c = gives q (automaton_at automata c.automaton)

abbrev pub is_given : MeantSource → Bytes → Bool
is_given m q = list_any (gives_in m.automata q) m.components

-- Of one of the hidden names 0 to j no component has an output.
pub record OutputMissing (m : MeantSource) (j : ℕ) : Type 0 where
  pub number : ℕ
  pub within : number ≤ j
  pub name : Bytes
  pub at : slice_get m.hidden number ≡ Some name
  pub missing : is_given m name ≡ false

-- the components 0 to j have the fault, or the hidden names, where the actions are numbered by these names
abbrev pub HasFault : List Bytes → MeantSource → Fault → ℕ → Type 0
HasFault names m Unknown j = AutomatonMissing m.components j
HasFault names m Own j = Breaks rule.Own (instances names m) j
HasFault names m Internal j = Breaks rule.Internal (instances names m) j
HasFault names m Output j = Breaks rule.Output (instances names m) j
HasFault names m Types j = TypesDiffer m j
HasFault names m Many j = (j ≡ most_components) × (most_components < length m.components)
HasFault names m Hidden j = OutputMissing m j

-- no fault is there
abbrev pub HasNoFault : List Bytes → MeantSource → Type 0
HasNoFault names m = (f : Fault) (j : ℕ) → HasFault names m f j → ⊥

-- The fault is there, j is the least component, or hidden name, with which it is, and no fault of a lesser number is there.
pub record IsLeastFault (names : List Bytes) (m : MeantSource) (f : Fault) (j : ℕ) : Type 0 where
  pub first : IsFirst (HasFault names m f) (Some j)
  pub least : (g : Fault) (k : ℕ) → fault_number g < fault_number f → HasFault names m g k → ⊥

-- the fault of an error, and its place
abbrev pub fault_of : ComposeError → Option (Fault × ℕ)
fault_of error.NoMemory = None
fault_of (error.NoSuchAutomaton j) = Some (Unknown, j)
fault_of (error.OwnOverlap j) = Some (Own, j)
fault_of (error.InternalShared j) = Some (Internal, j)
fault_of (error.OutputShared j) = Some (Output, j)
fault_of (error.ShapeDiffers j) = Some (Types, j)
fault_of error.TooManyComponents = Some (Many, most_components)
fault_of (error.NotAnOutput j) = Some (Hidden, j)

-- a refusal is the least fault, or want of memory, of which nothing is said
abbrev pub Refuses : MeantSource → Option (Fault × ℕ) → Type 0
Refuses m None = Unit {0}
Refuses m (Some f) = (names : List Bytes) × (AreNames names m × IsLeastFault names m f.0 f.1)

abbrev pub IsRefused : MeantSource → ComposeError → Type 0
IsRefused m e = Refuses m (fault_of e)

-- The plan is what the source means.
pub record IsPlan (m : MeantSource) (plan : Plan) : Type 0 where
  pub names : AreNames (action_texts plan) m
  pub composition : composition plan ≡ instances (action_texts plan) m
  pub types : action_types plan ≡ map (first_types m) (action_texts plan)
  pub marks : hidden_marks plan ≡ map (is_hidden m) (action_texts plan)
  pub members : member_texts plan ≡ m.members

abbrev pub number_or_one : Option (Fault × ℕ) → ℕ
number_or_one None = 1
number_or_one (Some f) = fault_number f.0

abbrev pub place_of : Option (Fault × ℕ) → Option ℕ
place_of None = None
place_of (Some f) = Some f.1

abbrev pub compose_number : ComposeError → ℕ
compose_number e = number_or_one (fault_of e)

abbrev pub compose_place : ComposeError → Option ℕ
compose_place e = place_of (fault_of e)

-- the error of the least number, where each fault is first there with these components, or with this hidden name
abbrev pub last_error : (hidden : Option ℕ) → Option ComposeError
last_error None = None
last_error (Some j) = Some (error.NotAnOutput j)

abbrev pub least_error : (unknown own internal output types : Option ℕ) → ℕ → (hidden : Option ℕ) → Option ComposeError
least_error (Some j) own internal output types n hidden = Some (error.NoSuchAutomaton j)
least_error None (Some j) internal output types n hidden = Some (error.OwnOverlap j)
least_error None None (Some j) output types n hidden = Some (error.InternalShared j)
least_error None None None (Some j) types n hidden = Some (error.OutputShared j)
least_error None None None None (Some j) n hidden = Some (error.ShapeDiffers j)
least_error None None None None None n hidden = if nat_lt most_components n then Some error.TooManyComponents else last_error hidden
