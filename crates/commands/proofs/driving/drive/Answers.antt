use Rattle.std.proofs.Common.{◌≡◌, ◌∙◌, ap, subst}
use Rattle.std.specs.Prelude.{IfErr}
use Rattle.task_seed.specs.declared.setup.Setup.{Setup}
use Rattle.task_seed.specs.Setups.{plan_of, system}
use Rattle.trace.specs.Headed.{headed}
use Rattle.trace.specs.Puts.{Stops}
use Rattle.world.specs.Simulation.{Simulation}
use Rattle.commands.specs.Driven.{IsUndriven}
use Rattle.commands.proofs.driving.drive.Goals as goal

pub returns-clause-undriven : goal.returns-clause-undriven
returns-clause-undriven g c =
    let old = c.args.out.now in
    let new = c.drive_world.new.out in
    let same : c.in_ok-world.world.setup ≡ c.args.setup = ap (λ (w : Simulation (Setup g.row.T.Denot)). w.setup) c.in_ok-world.ensures.value ∙ c.in_ok-shared.ensures.ok in
    subst (λ (p : Setup g.row.T.Denot).
    IfErr c.drive_world.result
    (IsUndriven (plan_of p) (system g.T.Turns.turn_of p) c.args.form.lines c.args.steps.now (new ≡ old) (λ text. Stops g.W.Write.contents old new 0 (headed c.args.form.head text)))) same
    c.drive_world.ensures.undriven
