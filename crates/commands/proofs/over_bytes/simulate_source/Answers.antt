use Rattle.std.proofs.Common.{inl, inr, refl}
use Rattle.task_seed.specs.Any.{any_turn}
use Rattle.task_seed.specs.Setups.{plan_of, system}
use Rattle.commands.proofs.over_bytes.simulate_source.Goals as goal

pub returns-in-Ok : goal.returns-in-Ok
returns-in-Ok g c =
    let setup = c.in-Ok.setup in
    inr (record { plan = plan_of setup; system = system any_turn setup; meant = c.in-Ok.ensures.ok; holds = c.simulate_setup.ensures })

pub returns-in-Err : goal.returns-in-Err
returns-in-Err g c = inl (c.in-Err.ensures.err, refl)
