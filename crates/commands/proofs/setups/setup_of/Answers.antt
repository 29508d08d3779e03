use Rattle.std.proofs.Common.{inr}
use Rattle.commands.specs.Setups.{given_of}
use Rattle.commands.proofs.SetupReports.{err_otherwise, ok_otherwise, setup_means}
use Rattle.commands.proofs.setups.setup_of.Goals as goal

pub returns-in-Ok-clause-ok : goal.returns-in-Ok-clause-ok
returns-in-Ok-clause-ok c =
    ok_otherwise _ _ (λ setup is. setup_means c.in-Ok.plan (given_of c.args.given) c.args.ticks setup c.args.source.now c.in-Ok.ensures.ok is) c.setup_with.result c.setup_with.ensures.ok

pub returns-in-Ok-clause-err : goal.returns-in-Ok-clause-err
returns-in-Ok-clause-err c = err_otherwise _ _ (λ report none. inr (record { plan = c.in-Ok.plan; composed = c.in-Ok.ensures.ok; holds = none })) c.setup_with.result c.setup_with.ensures.err
