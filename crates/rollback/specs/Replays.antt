-- The states that a component went through.
use Rattle.std.specs.Prelude.{ℕ, List, [], ◌∷◌}
use Rattle.virtual_time.specs.Entries.{Entry, replay}
use Rattle.virtual_time.specs.Machine.{Machine}

-- the state before each entry
abbrev pub replays_below : {S A : Type 0} → Machine S A → ℕ → S → List (Entry A) → List S
replays_below m i base [] = []
replays_below m i base (e ∷ es) = replay m i base es ∷ replays_below m i base es
