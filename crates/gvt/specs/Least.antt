-- The least of some bounds.
use Rattle.std.specs.Prelude.{◌≡◌, ◌≤◌, ◌⊎◌, List}
use Rattle.std.specs.List.{All, Contains}
use Rattle.event_keys.specs.declared.key.Bound.{Bound}
use Rattle.event_keys.specs.declared.key.Bound.TheVariants.{End}
use Rattle.event_keys.specs.Ranks.{rank_of_bound}

-- no bound of the list is below it, and it is one of them or the end; so it is the end where the list is empty
pub record IsLeast (bounds : List Bound) (least : Bound) : Type 0 where
  pub below : All (λ bound. rank_of_bound least ≤ rank_of_bound bound) bounds
  pub reached : Contains bounds least ⊎ (least ≡ End)
