-- What goes from one group to another.
use Rattle.std.specs.Prelude.{◌≡◌, ◌<◌, ◌≤◌, ℕ, List}
use Rattle.terms.specs.Named.{Named}
use Rattle.event_keys.specs.Ranks.{rank, owner_of}
use Rattle.task_seed.specs.Turning.{System}
use Rattle.reference.specs.Queues.{rank_or_end}
use Rattle.shares.specs.Turns.{group_at}
use Rattle.sure_groups.specs.declared.input.Input.{Input}
use Rattle.sure_groups.specs.declared.packet.Packet.{Packet}
use Rattle.sure_groups.specs.Inputs.{Comes, IsOneOf}

-- these are all that comes of the turns of one group, from a rank on and below another, to the components of another group
pub record ArePassed (s : System) (groups : List ℕ) (from to since until : ℕ) (inputs : List Input) : Type 0 where
  pub each : (x : Input) → IsOneOf inputs x → Comes s x.to (rank x.key) x.action × (since ≤ rank x.key) × (group_at groups (owner_of (rank x.key)) ≡ from) × (group_at groups x.to ≡ to)
  pub all : (j r : ℕ) (action : Named) → since ≤ r → r < until → group_at groups (owner_of r) ≡ from → group_at groups j ≡ to → Comes s j r action → (x : Input) × IsOneOf inputs x × (x.to ≡ j) × (rank x.key ≡ r)

abbrev pub IsPacket : System → List ℕ → Packet → Type 0
IsPacket s groups packet = ArePassed s groups packet.from packet.to (rank_or_end packet.since) (rank_or_end packet.until) packet.inputs.items
