-- An action that is enabled, and what stands once in a list.
use Rattle.std.specs.Prelude.{◌≡◌, ◌≢◌, ℕ, true, List, ◌∷◌, ◌++◌, Contains, Some, slice_get}
use Rattle.terms.specs.Datum.{Datum}
use Rattle.terms.specs.Named.{Named}
use Rattle.io_automata.specs.Automata.{Transition, Instance, component_at}
use Rattle.io_automata.specs.Each.{Each}
use Rattle.io_automata.specs.Outcomes.{task_of}
use Rattle.io_automata.specs.Signatures.{has}
use Rattle.io_automata.specs.Steps.{holds}

-- an entry of a task of component i stands for the action, and its precondition holds in the state
pub record IsEnabled (composition : List Instance) (i task : ℕ) (state : List Datum) (action : Named) : Type 0 where
  pub place : ℕ
  pub entry : Transition
  pub stands : Contains (task_of composition i task) place
  pub at : slice_get (component_at composition i).entries place ≡ Some entry
  pub has : has (component_at composition i).formals action entry ≡ true
  pub holding : holds entry (component_at composition i).formals state action.args ≡ true

-- x stands once in the list: whatever is before it and after it is something else
pub record IsOnce {A : Type 0} (x : A) (xs : List A) : Type 0 where
  pub before : List A
  pub after : List A
  pub split : xs ≡ before ++ x ∷ after
  pub none_before : Each (λ (y : A). y ≢ x) before
  pub none_after : Each (λ (y : A). y ≢ x) after
