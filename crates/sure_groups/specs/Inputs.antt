-- What comes to a component of others.
use Rattle.std.specs.Prelude.{◌≡◌, ◌<◌, ◌⊎◌, true, ℕ, Option, None, Some, List, [], ◌∷◌, slice_index_or}
use Rattle.terms.specs.Named.{Named}
use Rattle.event_keys.specs.declared.key.Key.{Key}
use Rattle.event_keys.specs.Ranks.{rank, owner_of}
use Rattle.io_automata.specs.Signatures.{receives}
use Rattle.task_seed.specs.Turning.{System}
use Rattle.reference.specs.Queues.{rank_or_end}
use Rattle.shares.specs.Turns.{HasTurn, group_at}
use Rattle.sure_groups.specs.declared.input.Input.{Input}

-- at a rank the reference has a turn with an action that component j takes as an input
abbrev pub Comes : System → (j r : ℕ) → Named → Type 0
Comes s j r action = HasTurn s r (Some action) × (receives s.composition (owner_of r) action j ≡ true)

-- up to which rank the turns of a group were heard of, where of each group the key is told up to which they were, or that all were
abbrev pub heard_at : List (Option Key) → ℕ → ℕ
heard_at heard group = rank_or_end (slice_index_or heard group None)

-- of all that comes to component j below a rank was heard
abbrev pub Knows : System → (groups : List ℕ) → List (Option Key) → (j below : ℕ) → Type 0
Knows s groups heard j below = (r : ℕ) (action : Named) → r < below → Comes s j r action → r < heard_at heard (group_at groups (owner_of r))

-- the input is one of these
abbrev pub IsOneOf : List Input → Input → Type 0
IsOneOf [] x = ⊥
IsOneOf (y ∷ ys) x = (x ≡ y) ⊎ IsOneOf ys x

-- the keys fall strictly: the least one is the last
abbrev pub AreFalling : List Input → Type 0
AreFalling [] = Unit {0}
AreFalling (x ∷ xs) = ((y : Input) → IsOneOf xs y → rank y.key < rank x.key) × AreFalling xs
