-- What of the turns that are drawn is a group's.
use Rattle.std.specs.Prelude.{◌≡◌, ◌<◌, ◌≤◌, ◌+◌, ℕ, Option, List, [], ◌∷◌, Contains}
use Rattle.terms.specs.Named.{Named}
use Rattle.event_keys.specs.declared.key.Key.{Key}
use Rattle.event_keys.specs.Ranks.{rank, owner_of}
use Rattle.task_seed.specs.Turning.{System}
use Rattle.reference.specs.Queues.{rank_or_end}
use Rattle.senders.specs.Senders.{senders_at}
use Rattle.shares.specs.declared.share.Own.{Own}
use Rattle.shares.specs.declared.share.Share.{Share}
use Rattle.shares.specs.declared.share.Wait.{Wait}
use Rattle.shares.specs.Turns.{HasTurn, IsComing, NoTurn, group_at}

-- of a setup, whose components may be sent to by these, and stand in these groups
module _ (s : System) (senders : List (List ℕ)) (groups : List ℕ) where
  -- Whoever may send to the turn's component, and has a turn before it, is of the same group, or of one of which a turn is awaited that is as late.
  pub record IsAwaited (own : Own) : Type 0 where
    pub all : (r : ℕ) (outcome : Option Named) → r < rank own.due.key → HasTurn s r outcome → Contains (senders_at senders own.due.key.component) (owner_of r)
        → (group_at groups (owner_of r) ≡ group_at groups own.due.key.component → ⊥)
        → (wait : Wait) × Contains own.waits.items wait × (wait.group ≡ group_at groups (owner_of r)) × (r ≤ rank wait.last)

  -- these are the turns of a group from a rank on, in order, up to the key `until`
  abbrev pub AreOwn : (group from : ℕ) → List Own → (until : Option Key) → Type 0
  AreOwn group from [] until = (from ≤ rank_or_end until) × NoTurn s groups group from (rank_or_end until)
  AreOwn group from (own ∷ later) until =
      (from ≤ rank own.due.key) × NoTurn s groups group from (rank own.due.key) × (group_at groups own.due.key.component ≡ group) × IsComing s own.due × IsAwaited own
      × AreOwn group (rank own.due.key + 1) later until

  -- the share of a group
  abbrev pub IsShare : (group : ℕ) → Share → Type 0
  IsShare group share = AreOwn group (rank_or_end share.from) share.own.items share.until
