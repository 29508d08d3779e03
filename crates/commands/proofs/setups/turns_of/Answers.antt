use Rattle.std.proofs.Common.{ap, sym, subst}
use Rattle.std.specs.Prelude.{IfErr, IfOk}
use Rattle.plans.specs.Plans.{composition}
use Rattle.task_seed.specs.Any.{any_turn}
use Rattle.commands.specs.Parts.{IsMemory, IsRefusal}
use Rattle.commands.specs.Setups.{AreRefused, AreTurns, given_of}
use Rattle.commands.proofs.SetupReports.{ok_both}
use Rattle.commands.proofs.setups.turns_of.Goals as goal

pub returns-in-Table-clause-ok : goal.returns-in-Table-clause-ok
returns-in-Table-clause-ok c = subst (λ t. IfOk c.tabled.result (λ turns. AreTurns (composition c.args.plan.now) t (any_turn turns))) (sym (ap given_of c.in-Table.is)) c.tabled.ensures.ok

pub returns-in-Table-clause-err : goal.returns-in-Table-clause-err
returns-in-Table-clause-err c = subst (λ t. IfErr c.tabled.result (IsRefusal (AreRefused (composition c.args.plan.now) t) IsMemory)) (sym (ap given_of c.in-Table.is)) c.tabled.ensures.err

pub returns-in-Seed-clause-ok : goal.returns-in-Seed-clause-ok
returns-in-Seed-clause-ok c =
    subst (λ t. IfOk c.drawn.result (λ turns. AreTurns (composition c.args.plan.now) t (any_turn turns))) (sym (ap given_of c.in-Seed.is)) (ok_both _ _ c.drawn.result c.drawn.ensures.ok c.drawn.ensures.within)

pub returns-in-Seed-clause-err : goal.returns-in-Seed-clause-err
returns-in-Seed-clause-err c = subst (λ t. IfErr c.drawn.result (IsRefusal (AreRefused (composition c.args.plan.now) t) IsMemory)) (sym (ap given_of c.in-Seed.is)) c.drawn.ensures.err
