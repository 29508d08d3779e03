-- What no step takes back: bounds and committed turns.
use Rattle.std.specs.Prelude.{◌≡◌, ◌≤◌, ◌++◌, List}
use Rattle.event_keys.specs.declared.outcome.Turned.{Turned}
use Rattle.event_keys.specs.Ranks.{rank_of_bound}
use Rattle.world.specs.Simulation.{Simulation}

-- From old to new the committed bound doesn't fall, is the same where its rank is, and committed turns are only put before those that there were
-- (the last one stands first).
pub record Keeps {P : Type 0} (old new : Simulation P) : Type 0 where
  pub rises : rank_of_bound old.bound ≤ rank_of_bound new.bound
  pub bound : rank_of_bound new.bound ≡ rank_of_bound old.bound → new.bound ≡ old.bound
  pub committed : (extra : List Turned) × (new.committed ≡ extra ++ old.committed)
