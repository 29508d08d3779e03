use Rattle.std.proofs.Common.{arith, subst, sym}
use Rattle.virtual_time.specs.Reference.{IsReference}
use Rattle.task_seed.specs.Machines.{machine, end_rank}
use Rattle.task_seed.specs.Setups.{system}
use Rattle.schedules.proofs.Owned.{owned}
use Rattle.schedules.proofs.laws.turns_are_own.Goals as goal

pub returns-clause-reference : goal.returns-clause-reference
returns-clause-reference g c = λ turns b is fit. owned (system g.T.Turns.turn_of c.args.setup.now) turns fit is.run

pub returns-clause-all : goal.returns-clause-all
returns-clause-all g c =
    let m = machine (system g.T.Turns.turn_of c.args.setup.now) in
    let whole = c.reference_is_complete.ensures.exists m end_rank c.machine_is_lawful.ensures.lawful (omega arith) in
    λ turns are. owned (system g.T.Turns.turn_of c.args.setup.now) turns are.keys (subst (IsReference m end_rank) (sym are.all) whole).run
