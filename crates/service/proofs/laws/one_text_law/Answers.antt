use Rattle.std.proofs.Common.{subst}
use Rattle.task_seed.specs.Setups.{plan_of, system}
use Rattle.trace.specs.Headed.{headed}
use Rattle.trace.specs.Lines.{text_of}
use Rattle.trace.specs.Went.{IsWritten}
use Rattle.service.proofs.laws.one_text_law.Goals as goal

pub returns : goal.returns
returns g c a b x y count ran simulated =
    let form = c.args.form in
    let plan = plan_of c.args.setup.now in
    let s = system g.T.Turns.turn_of c.args.setup.now in
    let one = c.turns_are_one.ensures plan s simulated.turns ran.turns simulated.are ran.are in (
      headed form.head (text_of plan form.lines ran.turns),
      ran.became,
      subst (λ turns. IsWritten g.V.Write.contents x y (headed form.head (text_of plan form.lines turns))) one simulated.became,
    )
