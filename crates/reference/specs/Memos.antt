-- What is known of the components' tasks.
use Rattle.std.specs.Prelude.{◌≡◌, ℕ, List, Some, length, slice_get}
use Rattle.undo_records.specs.States.{States, undone}
use Rattle.io_automata.specs.Automata.{Instance}
use Rattle.plans.specs.Memos.{IsMemo}
use Rattle.plans.specs.declared.memo.Memo.{Memo}

-- for each component what is known of it, and that is true in its state
pub record AreMemos (composition : List Instance) (states : List States) (memos : List Memo) : Type 0 where
  pub many : length memos ≡ length composition
  pub each : (j : ℕ) (memo : Memo) (state : States) → slice_get memos j ≡ Some memo → slice_get states j ≡ Some state → IsMemo composition j state.current memo

-- the current state of component j is the marked one below it
abbrev pub IsStill : List States → ℕ → Type 0
IsStill states j = (state : States) → slice_get states j ≡ Some state → (undone state).current ≡ state.current
