-- What a gate leaves of a lease.
use Rattle.std.specs.Prelude.{◌≡◌, ℕ, Option}
use Rattle.task_seed.specs.declared.setup.Setup.{Setup}
use Rattle.task_seed.specs.declared.turns.Turn.{Turn}
use Rattle.groups.specs.GroupView.{GroupView}
use Rattle.group_exchange.specs.LeaseView.{KeepsMembers}
use Rattle.group_exchange.specs.Seen.{StaysTheSame}

-- the lease is still that of its group, with its window, and whoever knew it knows it
pub record StaysItself {T : Type 0} (turn_of : T → ℕ → ℕ → Option Turn) (old new : GroupView (Setup T)) : Type 0 where
  pub members : KeepsMembers old new
  pub known : StaysTheSame turn_of old new
  pub window : new.window ≡ old.window
