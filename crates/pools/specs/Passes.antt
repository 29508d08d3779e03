-- Which passes belong to which pool, and what a pass holds.
use Rattle.std.specs.Prelude.{◌≡◌, ℕ, ◌≤◌, List, [], length}
use Rattle.crossbeam_queue.specs.Passes.{view, IsPassOf, ruled_capacity}
use Rattle.pools.specs.declared.rule.Hand.{Hand}
use Rattle.pools.specs.declared.places.Pool.{Pool}
use Rattle.pools.specs.declared.places.Pass.{Pass}
use Rattle.pools.specs.Places.{times}

module _ {L K : Type 0} where
  -- what the pass knows
  abbrev pub holding : Pass L K → Hand K
  holding p = view p.pass

  -- it is a pass of this pool, which has room for all items that the pass knows of
  abbrev pub IsOf : Pool L K → Pass L K → Type 0
  IsOf q p = IsPassOf q.queue p.pass × (length (holding p).all ≤ ruled_capacity q.queue)

  -- it is a pass of the pool of the items with these numbers, in some order, and holds none of them
  abbrev pub IsEmptyOf : Pool L K → List ℕ → Pass L K → Type 0
  IsEmptyOf q numbers p = IsOf q p × ((holding p).held ≡ []) × ((x : ℕ) → times x (holding p).all ≡ times x numbers) × (length (holding p).all ≡ length numbers)
