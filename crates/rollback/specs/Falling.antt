-- The keys of what a component has done, in order.
use Rattle.std.specs.Prelude.{◌≤◌, List, [], ◌∷◌, Option, IfSome}
use Rattle.terms.specs.Named.{Named}
use Rattle.event_keys.specs.declared.key.Key.{Key}
use Rattle.event_keys.specs.Ranks.{rank}
use Rattle.virtual_time.specs.Bags.{AllFrom}
use Rattle.virtual_time.specs.Entries.{Entry, Item, entry_key, latest}

-- going back from the newest entry, no key is greater than the one after it
abbrev pub Falls : List (Entry Named) → Type 0
Falls [] = Unit {0}
Falls (e ∷ es) = (latest 0 es ≤ entry_key e) × Falls es

-- the done entries' keys fall, and neither a pending input nor the next turn is below the newest of them
pub record IsFalling (es : List (Entry Named)) (xs : List (Item Named)) (own : Option Key) : Type 0 where
  pub done : Falls es
  pub waiting : AllFrom (latest 0 es) xs
  pub next : IfSome own (λ key. latest 0 es ≤ rank key)
