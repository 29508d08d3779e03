-- What a setup holds.
use Rattle.std.specs.Prelude.{ℕ, Option}
use Rattle.plans.specs.declared.plan.Plan.{Plan}
use Rattle.plans.specs.Plans.{composition}
use Rattle.task_seed.specs.declared.turns.Turn.{Turn}
use Rattle.task_seed.specs.declared.setup.Setup.{Setup}
use Rattle.task_seed.specs.Turning.{System}

-- its composition
abbrev pub plan_of : {T : Type 0} → Setup T → Plan
plan_of setup = setup.plan

-- what gives its turns
abbrev pub source_of : {T : Type 0} → Setup T → T
source_of setup = setup.turns

-- its last tick
abbrev pub horizon_of : {T : Type 0} → Setup T → ℕ
horizon_of setup = setup.horizon

-- the system that a setup is, where its turns are read by turn_of
abbrev pub system : {T : Type 0} → (T → ℕ → ℕ → Option Turn) → Setup T → System
system turn_of setup = record { composition = composition setup.plan; turn = turn_of setup.turns; horizon = setup.horizon }
