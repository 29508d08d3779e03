-- What is known of a component's tasks in its present state.
use Rattle.std.specs.Prelude.{◌≡◌, ℕ, false, List, [], Some, slice_get}
use Rattle.std.specs.List.{flat_map}
use Rattle.terms.specs.Datum.{Datum}
use Rattle.terms.specs.Named.{Named}
use Rattle.io_automata.specs.Automata.{Instance, component_at}
use Rattle.io_automata.specs.Outcomes.{enabled_of}
use Rattle.outcomes.specs.Tasks.{AreFoundAmong, made_by}
use Rattle.outcomes.specs.declared.spans.Found.{Found}
use Rattle.plans.specs.Resting.{IsResting, rests}
use Rattle.plans.specs.declared.memo.Kept.{Kept}
use Rattle.plans.specs.declared.memo.Memo.{Memo}

-- the actions of component i of what was found
abbrev pub made_in : List Instance → ℕ → Found → List Named
made_in composition i found = made_by (component_at composition i).formals (slice_get (component_at composition i).entries found.place) found.from found.count

-- what was found of a task of component i is what is enabled of it in this state
pub record IsKept (composition : List Instance) (i : ℕ) (state : List Datum) (kept : Kept) : Type 0 where
  pub found : AreFoundAmong (component_at composition i).entries kept.founds.items
  pub whole : flat_map (made_in composition i) kept.founds.items ≡ enabled_of composition i kept.task state

-- what is known of component i is true in this state
pub record IsMemo (composition : List Instance) (i : ℕ) (state : List Datum) (memo : Memo) : Type 0 where
  pub resting : IsResting composition i state memo.resting
  pub kept : (k : ℕ) (kept : Kept) → slice_get memo.kept.items k ≡ Some kept → IsKept composition i state kept

-- nothing is known
pub record IsBlank (memo : Memo) : Type 0 where
  pub resting : (task : ℕ) → rests memo.resting task ≡ false
  pub kept : memo.kept.items ≡ []

-- this was found of a task
pub record IsAmong (all : List Kept) (task : ℕ) (founds : List Found) : Type 0 where
  pub at : ℕ
  pub kept : Kept
  pub there : slice_get all at ≡ Some kept
  pub its : kept.task ≡ task
  pub found : founds ≡ kept.founds.items
