-- Signed messages as what is in flight in the theory.
use Rattle.std.specs.Prelude.{◌≡◌, ℕ, ◌==◌, ◌&&◌, ⊤, Bool, true, false, List, [], ◌∷◌, if◌then◌else◌}
use Rattle.antimessage.specs.Order.{KeyFits}
use Rattle.terms.specs.Named.{Named}
use Rattle.event_keys.specs.declared.key.Bound.{Bound}
use Rattle.event_keys.specs.declared.key.Bound.TheVariants.{At, End}
use Rattle.event_keys.specs.declared.message.Sign.{Sign}
use Rattle.event_keys.specs.declared.message.Sign.TheVariants.{Plus, Minus}
use Rattle.event_keys.specs.declared.message.Signed.{Signed}
use Rattle.event_keys.specs.Ranks.{rank}
use Rattle.antimessage.specs.Counts.{Each}
use Rattle.virtual_time.specs.Entries.{Item}

-- a message: the rank of its key, and its action
abbrev pub item_of : Signed → Item Named
item_of s = record { key = rank s.message.key; action = s.message.action }

abbrev pub is_sign : Sign → Sign → Bool
is_sign Plus Plus = true
is_sign Plus Minus = false
is_sign Minus Plus = false
is_sign Minus Minus = true

-- it has this sign and is sent to component j
abbrev pub goes : Sign → ℕ → Signed → Bool
goes sign j s = is_sign sign s.sign && (s.message.to == j)

-- what is in flight to component j with this sign
abbrev pub in_flight : Sign → ℕ → List Signed → List (Item Named)
in_flight sign j [] = []
in_flight sign j (s ∷ ss) = if goes sign j s then item_of s ∷ in_flight sign j ss else in_flight sign j ss

-- the messages of a list, one by one
abbrev pub items_of : List Signed → List (Item Named)
items_of [] = []
items_of (s ∷ ss) = item_of s ∷ items_of ss

-- each has this sign and is sent to component j
abbrev pub AllGo : Sign → ℕ → List Signed → Type 0
AllGo sign j = Each (λ s. goes sign j s ≡ true)

-- the bound's numbers fit their types, so that keys are compared with it as their ranks
abbrev pub IsComparable : Bound → Type 0
IsComparable (At key) = KeyFits key
IsComparable End = ⊤
