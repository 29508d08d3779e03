-- A component of a group: its state, and what came to it and isn't taken in.
use Rattle.std.specs.Prelude.{◌≡◌, ◌<◌, ◌≤◌, ℕ, Option, List, []}
use Rattle.terms.specs.Datum.{Datum}
use Rattle.terms.specs.Named.{Named}
use Rattle.event_keys.specs.declared.key.Key.{Key}
use Rattle.event_keys.specs.Ranks.{rank, owner_of}
use Rattle.virtual_time.specs.Reference.{point}
use Rattle.plans.specs.Memos.{IsMemo}
use Rattle.task_seed.specs.Machines.{machine}
use Rattle.task_seed.specs.Turning.{System}
use Rattle.shares.specs.Turns.{HasTurn, group_at}
use Rattle.sure_groups.specs.declared.input.Input.{Input}
use Rattle.sure_groups.specs.declared.member.Member.{Member}
use Rattle.sure_groups.specs.Inputs.{AreFalling, Comes, IsOneOf, Knows, heard_at}

-- Component j is in the state that it has in the reference at some rank, up to `own`, and since then had no turn below `own`. What waits is all that
-- comes to it from that rank on, as far as was heard; and of what came before was heard.
pub record Stands (s : System) (groups : List ℕ) (heard : List (Option Key)) (own j : ℕ) (state : List Datum) (pending : List Input) : Type 0 where
  pub at : ℕ
  pub low : at ≤ own
  pub state_is : state ≡ (point (machine s) at).state j
  pub none : (r : ℕ) (outcome : Option Named) → at ≤ r → r < own → HasTurn s r outcome → owner_of r ≡ j → ⊥
  pub order : AreFalling pending
  pub inputs : (x : Input) → IsOneOf pending x → Comes s j (rank x.key) x.action × (at ≤ rank x.key)
  pub all : (r : ℕ) (action : Named) → at ≤ r → r < heard_at heard (group_at groups (owner_of r)) → Comes s j r action → (x : Input) × IsOneOf pending x × (rank x.key ≡ r)
  pub before : Knows s groups heard j at

-- the same of a member of a group, whose state has no marks, and what is known of its tasks
pub record IsMember (s : System) (groups : List ℕ) (heard : List (Option Key)) (own j : ℕ) (member : Member) : Type 0 where
  pub plain : member.state.below ≡ []
  pub memo : IsMemo s.composition j member.state.current member.memo
  pub stands : Stands s groups heard own j member.state.current member.pending.items
