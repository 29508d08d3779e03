use Rattle.std.proofs.Common.{ℕ, List, inl, inr, refl, subst}
use Rattle.task_seed.specs.Any.{any_turn}
use Rattle.task_seed.specs.Setups.{plan_of, system}
use Rattle.trace.specs.declared.texts.Form.{Form}
use Rattle.trace.specs.Went.{IsStopped, IsWritten}
use Rattle.commands.specs.Parts.{IsSimulationReport}
use Rattle.commands.proofs.over_files.simulate_file.Goals as goal

pub returns-in-Ok : goal.returns-in-Ok
returns-in-Ok g c =
    let old = c.args.out.now in
    let new = c.simulate_setup.new.out in
    let wrote : List ℕ → Type 0 = IsWritten g.W.Write.contents old new in
    let cut : List ℕ → ℕ → Type 0 = IsStopped g.W.Write.contents old new in
    let setup = c.in-Ok.setup in
    let ends : Form → Type 0 = λ form. IsSimulationReport (plan_of setup) (system any_turn setup) form wrote cut c.simulate_setup.result in
    inr (record { plan = plan_of setup; system = system any_turn setup; meant = c.in-Ok.ensures.ok; holds = subst ends c.form_for.ensures c.simulate_setup.ensures })

pub returns-in-Err : goal.returns-in-Err
returns-in-Err g c = inl (c.in-Err.ensures.err, refl)
