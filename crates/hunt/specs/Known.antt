-- What is known of the turns of the simulator that always takes the least key.
use Rattle.std.specs.Prelude.{◌≡◌, ℕ, ◌≤◌, List, ◌++◌}
use Rattle.terms.specs.Named.{Named}
use Rattle.virtual_time.specs.Reference.{Turn, IsReference, reference_below}
use Rattle.plans.specs.declared.plan.Plan.{Plan}
use Rattle.task_seed.specs.Machines.{machine, end_rank}
use Rattle.task_seed.specs.Turning.{System}
use Rattle.schedules.specs.Schedules.{HasSchedulesBelow}

-- the actions of its turns below a bound are a schedule of the plan, all of its turns begin with
-- those, and all are one list
pub record IsKnown (plan : Plan) (s : System) : Type 0 where
  pub scheduled : HasSchedulesBelow plan s
  pub begins : (b : ℕ) → b ≤ end_rank → (extra : List (Turn Named))
      × (reference_below (machine s) end_rank ≡ extra ++ reference_below (machine s) b)
  pub one : (turns : List (Turn Named)) → IsReference (machine s) end_rank turns
      → turns ≡ reference_below (machine s) end_rank
