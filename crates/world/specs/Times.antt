-- The least of all next keys.
use Rattle.std.specs.Prelude.{ℕ, ◌^◌, min, List, [], ◌∷◌, Option}
use Rattle.task_seed.specs.declared.setup.Setup.{Setup}
use Rattle.task_seed.specs.declared.turns.Turn.{Turn}
use Rattle.rollback.specs.ComponentView.{ComponentView, machine_of, next_key}
use Rattle.rollback.specs.Stepped.{next_entry}

module _ {T : Type 0} (turn_of : T → ℕ → ℕ → Option Turn) where
  -- the least key of the next entries, or the end
  abbrev pub least_next : List (ComponentView (Setup T)) → ℕ
  least_next [] = 2 ^ 144
  least_next (c ∷ cs) = min (next_key (machine_of turn_of c.setup) (next_entry turn_of c)) (least_next cs)
