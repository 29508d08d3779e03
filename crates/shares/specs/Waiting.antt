-- What a turn of a group waits for.
use Rattle.std.specs.Prelude.{◌≡◌, ◌≤◌, ℕ, Option, Some, List, Contains, slice_get}
use Rattle.event_keys.specs.declared.key.Key.{Key}
use Rattle.event_keys.specs.Ranks.{rank}
use Rattle.shares.specs.declared.share.Wait.{Wait}

-- a turn of a group is awaited that is as late as a rank
abbrev pub IsCovered : List Wait → (group r : ℕ) → Type 0
IsCovered waits group r = (wait : Wait) × Contains waits wait × (wait.group ≡ group) × (r ≤ rank wait.last)

-- the last turn of component i is awaited, if it had one and is of another group than `own`
abbrev pub IsWaited : List ℕ → List (Option Key) → (own : ℕ) → List Wait → (i : ℕ) → Type 0
IsWaited groups last own waits i = (group : ℕ) (key : Key) → slice_get groups i ≡ Some group → slice_get last i ≡ Some (Some key) → (group ≡ own → ⊥) → IsCovered waits group (rank key)
