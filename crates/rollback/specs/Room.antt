-- Whether there is room in a window for a component's next entry.
use Rattle.std.specs.Prelude.{ℕ, Bool, true, nat_lt, List, Option, None, Some}
use Rattle.virtual_time.specs.Entries.{Entry, Input, Own}
use Rattle.virtual_time.specs.Exchange.Windows.{own_turns}

-- an own turn has room where fewer than so many are done; an input always has
abbrev pub has_room : {A : Type 0} → ℕ → List (Entry A) → Option (Entry A) → Bool
has_room window done None = true
has_room window done (Some (Own k o)) = nat_lt (own_turns done) window
has_room window done (Some (Input x)) = true
