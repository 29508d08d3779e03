use Rattle.std.proofs.Common.{subst}
use Rattle.plans.specs.Plans.{composition}
use Rattle.task_seed.specs.Any.{any_turn}
use Rattle.commands.specs.Setups.{IsTabled}
use Rattle.commands.proofs.explaining.named_table_refused.Goals as goal

pub returns-in-Ok-tabled-clause-ok : goal.returns-in-Ok-tabled-clause-ok
returns-in-Ok-tabled-clause-ok g c =
    let f = c.in-Ok.ensures.ok in
    let turn = any_turn c.in-Ok-tabled.turns in
    record {
      bytes = c.in-Ok.bytes.items;
      is = f.0;
      small = f.1;
      judged = (turn, subst (λ l. IsTabled (composition c.args.plan.now) l turn) c.as_slice.ensures.value c.in-Ok-tabled.ensures.ok);
    }
