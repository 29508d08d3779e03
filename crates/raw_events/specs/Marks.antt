-- The marks by which the nodes of a line say where it ends.
use Rattle.std.specs.Prelude.{◌≡◌, List, [], ◌∷◌, map}
use Rattle.raw_events.specs.declared.slot.Slot.{Slot}
use Rattle.raw_events.specs.Around.{is_nonempty}

-- each slot says whether another comes after it
abbrev pub IsMarked : {X : Type 0} → List (Slot X) → Type 0
IsMarked [] = Unit {0}
IsMarked (s ∷ ss) = (s.more ≡ is_nonempty ss) × IsMarked ss

-- the items that the slots hold
abbrev pub items_of : {X : Type 0} → List (Slot X) → List X
items_of = map (λ s. s.item)
