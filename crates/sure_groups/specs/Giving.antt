-- Inputs wait at the components that they are for.
use Rattle.std.specs.Prelude.{◌≡◌, ◌⊎◌, ℕ, Some, List, length, slice_get}
use Rattle.event_keys.specs.Ranks.{rank}
use Rattle.sure_groups.specs.declared.input.Input.{Input}
use Rattle.sure_groups.specs.declared.member.Member.{Member}
use Rattle.sure_groups.specs.Inputs.{AreFalling, IsOneOf}

-- Component j has the state that it had. What waited there waits still, and so does, of its key, each of these inputs that is for it; nothing else does.
pub record IsGiven (j : ℕ) (inputs : List Input) (old new : Member) : Type 0 where
  pub state : new.state ≡ old.state
  pub memo : new.memo ≡ old.memo
  pub order : AreFalling old.pending.items → AreFalling new.pending.items
  pub kept : (y : Input) → IsOneOf old.pending.items y → IsOneOf new.pending.items y
  pub only : (y : Input) → IsOneOf new.pending.items y → IsOneOf old.pending.items y ⊎ (IsOneOf inputs y × (y.to ≡ j))
  pub there : (y : Input) → IsOneOf inputs y → y.to ≡ j → (x : Input) × IsOneOf new.pending.items x × (rank x.key ≡ rank y.key)

-- the same of each component
pub record AreGiven (inputs : List Input) (olds news : List Member) : Type 0 where
  pub many : length news ≡ length olds
  pub each : (j : ℕ) (new : Member) → slice_get news j ≡ Some new → (old : Member) × (slice_get olds j ≡ Some old) × IsGiven j inputs old new
